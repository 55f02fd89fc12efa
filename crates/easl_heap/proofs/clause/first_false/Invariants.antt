use Rattle.std.proofs.Common.{◌≡◌, ◌+◌, drop, map}
use Rattle.std.specs.Prelude.{not}
use Rattle.std.specs.List.{position_from}
use Rattle.easl_model.specs.{condition_of}
use Rattle.easl_heap.specs.Clause as spec
use Rattle.easl_heap.proofs.clause.first_false.Given as goal

abbrev pub invariant-each : goal.invariant-each
invariant-each l =
    position_from
    (λ c. not (spec.holds l.objects l.slots c))
    (l.before + 1)
    (map condition_of (drop l.before l.clauses))
    ≡ spec.first_false l.objects l.slots (map condition_of l.clauses)
