use Rattle.std.proofs.Common.{◌≡◌, ◌≤◌, length, take}
use Rattle.alias_cases.specs.{next_level}
use Rattle.alias_cases.proofs.listing.next_level.Given as goal

abbrev pub invariant-each : goal.invariant-each
invariant-each l = record {
  items : l.next ≡ next_level l.steps l.classes l.step l.class (take l.blocks-index l.level);
  few : length l.next ≤ 65536;
}
