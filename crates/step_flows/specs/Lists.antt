-- Lists of names among which are those of all facts that follow over a component call.
use Rattle.std.specs.Prelude.{◌≡◌, ℕ, List, Option}
use Rattle.access_paths.specs.declared.term.Var.{Var}
use Rattle.client_facts.specs.Flows.{names_of_update, positions}
use Rattle.client_model.specs.declared.form.CallSite.{CallSite}
use Rattle.easl_model.specs.declared.form.Method.{Method}
use Rattle.step_flows.specs.Put.{AreNamed}

-- with these names after the call the result is at its places, and the variables have the held names before it
pub record AreRight (target : Option ℕ) (results : ℕ) (method : Method) (site : CallSite) (vars : List Var) (held args : List ℕ) : Type 0 where
  pub places : positions target args ≡ results
  pub named : AreNamed (names_of_update results args method site) vars held
