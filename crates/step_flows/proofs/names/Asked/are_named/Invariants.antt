use Rattle.std.proofs.Common.{◌≡◌, ℕ, ◌<◌, Some, get_or, slice_get}
use Rattle.access_paths.specs.declared.term.Var.{Var}
use Rattle.client_facts.specs.Flows.{names_of_update}
use Rattle.step_flows.proofs.names.Asked.are_named.Given as goal

abbrev pub invariant-each : goal.invariant-each
invariant-each l = (k : ℕ) (d : Var) (e : ℕ) → k < l.number → slice_get (names_of_update l.self.results l.codes l.self.method.now l.self.site.now)
    (get_or l.vars k d).0 ≡ Some (Some (get_or l.names k e))
