-- Questions on the method of a component call, and the entries that answer them.
use Rattle.std.specs.Prelude.{◌≡◌, ℕ, List, Option, Some, slice_get}
use Rattle.client_facts.specs.Flows.{IsPut}
use Rattle.client_facts.specs.Setting.{Setting}
use Rattle.client_facts.specs.declared.fact.Fact.{Fact}
use Rattle.client_model.specs.declared.form.CallSite.{CallSite}
use Rattle.easl_model.specs.declared.form.Method.{Method}
use Rattle.method_abstraction.specs.declared.entry.ClauseFacts.{ClauseFacts}
use Rattle.step_flows.specs.Adding.{IsBySome}

-- the component call of this number, with its method
pub record IsCalledAt (g : Setting) (call : ℕ) (site : CallSite) (method : Method) : Type 0 where
  pub site_is : slice_get g.client.calls call ≡ Some site
  pub method_is : slice_get g.form.methods site.method ≡ Some method

-- the entry on the clause of the method has a disjunct that gives the fact with these names
pub record IsGivenBy (names : List (Option ℕ)) (method clause : ℕ) (entry : ClauseFacts) (f : Fact) : Type 0 where
  pub of_method : entry.method ≡ method
  pub of_clause : entry.clause ≡ clause
  pub given : IsBySome (IsPut names) entry.disjuncts f
