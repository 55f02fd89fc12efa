use Rattle.std.proofs.Common.{◌≡◌, ◌≤◌, ◌++◌, length, take}
use Rattle.alias_cases.specs.{extended}
use Rattle.alias_cases.proofs.listing.extend.Given as goal

abbrev pub invariant-each : goal.invariant-each
invariant-each l = record {
  items : l.next ≡ l.initial.next ++ extended l.blocks (take l.block-index l.found);
  few : length l.next ≤ 65536;
}
