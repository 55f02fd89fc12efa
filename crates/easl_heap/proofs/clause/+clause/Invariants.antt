use Rattle.std.proofs.Common.{◌≡◌, drop, map}
use Rattle.easl_model.specs.{condition_of, conditions}
use Rattle.easl_heap.specs.Clause as spec
use Rattle.easl_heap.proofs.clause.+clause.Given as goal

abbrev pub invariant-all_hold-each : goal.invariant-all_hold-each
invariant-all_hold-each l =
    spec.all_hold l.objects l.slots (conditions (map condition_of (drop l.test-index l.tests)))
    ≡ spec.all_hold l.objects l.slots (conditions (map condition_of l.tests))

abbrev pub invariant-any_holds-each : goal.invariant-any_holds-each
invariant-any_holds-each l =
    spec.any_holds l.objects l.slots (conditions (map condition_of (drop l.test-index l.tests)))
    ≡ spec.any_holds l.objects l.slots (conditions (map condition_of l.tests))
