use Rattle.std.proofs.Common.{◌≡◌, drop}
use Rattle.easl_model.specs.{first_of, first_with}
use Rattle.easl_model.specs.Faults.{comes_before}
use Rattle.easl_types.specs.Calls.{cycles_over}
use Rattle.easl_types.proofs.cycles.faults_of_calls.Given as goal

abbrev pub invariant-each : goal.invariant-each
invariant-each l = first_with comes_before l.found (cycles_over l.calls l.class (drop l.class l.calls)) ≡ first_of (cycles_over l.calls 0 l.calls)
