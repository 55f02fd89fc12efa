use Rattle.std.proofs.Common.{◌≡◌, ◌<◌, All, length, take}
use Rattle.cube_cover.specs.{configurations_at}
use Rattle.derivation.proofs.cases.all_numbers.Given as goal

abbrev pub invariant-each : goal.invariant-each
invariant-each l = record {
  named : configurations_at l.cases.list l.numbers.items ≡ take l.number l.cases.list;
  within : All (λ k. k < length l.cases.list) l.numbers.items;
}
