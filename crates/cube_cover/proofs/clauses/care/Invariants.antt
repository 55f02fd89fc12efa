use Rattle.std.proofs.Common.{◌≡◌, ◌<◌, All, filter, length, take}
use Rattle.case_model.specs.{by_blocks, clauses_hold}
use Rattle.cube_cover.specs.{configurations_at}
use Rattle.cube_cover.proofs.clauses.care.Given as goal

abbrev pub invariant-each : goal.invariant-each
invariant-each l = record {
  named : configurations_at l.cases.list l.numbers.items ≡ filter (λ bs. clauses_hold l.called (by_blocks l.terms bs)) (take l.number l.cases.list);
  within : All (λ k. k < length l.cases.list) l.numbers.items;
}
