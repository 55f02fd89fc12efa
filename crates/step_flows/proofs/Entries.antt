-- The facts of a clause, entry by entry.
use Rattle.std.proofs.Common.{ℕ, ◌≡◌, ◌≢◌, Option, List, [], slice_get, sym, subst, ap, ◌∙◌}
use Rattle.std.proofs.lemmas.Option.{same_Some}
use Rattle.client_facts.specs.Flows.{IsClauseFact, IsPut, names_of_clause, names_of_update}
use Rattle.client_facts.specs.Setting.{Setting}
use Rattle.client_facts.specs.declared.fact.Fact.{Fact}
use Rattle.client_model.specs.declared.form.CallSite.{CallSite}
use Rattle.easl_model.specs.declared.form.Method.{Method}
use Rattle.method_abstraction.specs.declared.entry.ClauseFacts.{ClauseFacts}
use Rattle.method_abstraction.specs.declared.entry.Disjunct.{Disjunct}
use Rattle.step_flows.proofs.Adding.{Adds-nothing, Adds-same}
use Rattle.step_flows.specs.Adding.{Adds, IsBySome}
use Rattle.step_flows.specs.Asking.{IsCalledAt, IsGivenBy}

-- an entry on another method
pub method_other : (names : List (Option ℕ)) (method clause : ℕ) (entry : ClauseFacts) (old : List Fact) → entry.method ≢ method
    → Adds (IsGivenBy names method clause entry) old old
method_other names method clause entry old other = Adds-nothing (IsGivenBy names method clause entry) old (λ f r. other r.of_method)

-- or on another clause
pub clause_other : (names : List (Option ℕ)) (method clause : ℕ) (entry : ClauseFacts) (old : List Fact) → entry.clause ≢ clause
    → Adds (IsGivenBy names method clause entry) old old
clause_other names method clause entry old other = Adds-nothing (IsGivenBy names method clause entry) old (λ f r. other r.of_clause)

-- or on this one
pub clause_given : (names : List (Option ℕ)) (method clause : ℕ) (entry : ClauseFacts) (shown : List Disjunct) (old new : List Fact) → entry.method ≡ method
    → entry.clause ≡ clause
    → shown ≡ entry.disjuncts → Adds (IsBySome (IsPut names) shown) old new → Adds (IsGivenBy names method clause entry) old new
clause_given names method clause entry shown old new of_method of_clause e a =
    let P : List Disjunct → Type 0 = λ v. Adds (IsBySome (IsPut names) v) old new in
    Adds-same (IsBySome (IsPut names) entry.disjuncts) (IsGivenBy names method clause entry) old new
    (λ f r. record { of_method = of_method; of_clause = of_clause; given = r })
    (λ f q. q.given)
    (subst P e a)

-- where there is no such call
pub no_clauses : (g : Setting) (call clause : ℕ) (old : List Fact) → ((site : CallSite) (method : Method) → IsCalledAt g call site method → ⊥)
    → Adds (IsClauseFact g call clause) old old
no_clauses g call clause old never = Adds-nothing (IsClauseFact g call clause) old
    (λ f r. never r.site r.method (record { site_is = r.site_is; method_is = r.method_is }))

clause_to : (g : Setting) (call clause : ℕ) (site : CallSite) (method : Method) (f : Fact) → IsCalledAt g call site method
    → IsBySome (IsGivenBy (names_of_clause method site) site.method clause) g.abstraction.clauses f → IsClauseFact g call clause f
clause_to g call clause site method f is r = record {
  site = site;
  site_is = is.site_is;
  method = method;
  method_is = is.method_is;
  facts = r.chosen;
  there = r.among;
  of_method = r.true_of.of_method;
  of_clause = r.true_of.of_clause;
  chosen = r.true_of.given.chosen;
  among = r.true_of.given.among;
  put_in = r.true_of.given.true_of;
}

clause_from : (g : Setting) (call clause : ℕ) (site : CallSite) (method : Method) (f : Fact) → IsCalledAt g call site method → IsClauseFact g call clause f
    → IsBySome (IsGivenBy (names_of_clause method site) site.method clause) g.abstraction.clauses f
clause_from g call clause site method f is q =
    let same_site : q.site ≡ site = same_Some q.site site (sym q.site_is ∙ is.site_is) in
    let same_method : q.method ≡ method = same_Some q.method method (sym q.method_is ∙ ap (λ v. slice_get g.form.methods v.method) same_site ∙ is.method_is) in
    let P : CallSite → Type 0 = λ v. IsBySome (IsGivenBy (names_of_clause q.method v) v.method clause) g.abstraction.clauses f in
    let Q : Method → Type 0 = λ v. IsBySome (IsGivenBy (names_of_clause v site) site.method clause) g.abstraction.clauses f in
    subst Q same_method (subst P same_site (record {
      chosen = q.facts;
      among = q.there;
      true_of = record {
        of_method = q.of_method;
        of_clause = q.of_clause;
        given = record { chosen = q.chosen; among = q.among; true_of = q.put_in };
      };
    }))

-- where there is one
pub whole_clauses : (g : Setting) (call clause : ℕ) (site : CallSite) (method : Method) (results : ℕ) (entries : List ClauseFacts) (old new : List Fact)
    → IsCalledAt g call site method → results ≡ 0
    → entries ≡ g.abstraction.clauses → Adds (IsBySome (IsGivenBy (names_of_update results [] method site) site.method clause) entries) old new
    → Adds (IsClauseFact g call clause) old new
whole_clauses g call clause site method results entries old new is none e a =
    let P : List ClauseFacts → Type 0 = λ v. Adds (IsBySome (IsGivenBy (names_of_update results [] method site) site.method clause) v) old new in
    let Q : ℕ → Type 0 = λ v. Adds (IsBySome (IsGivenBy (names_of_update v [] method site) site.method clause) g.abstraction.clauses) old new in
    Adds-same (IsBySome (IsGivenBy (names_of_clause method site) site.method clause) g.abstraction.clauses) (IsClauseFact g call clause) old new
    (λ f r. clause_to g call clause site method f is r)
    (λ f q. clause_from g call clause site method f is q)
    (subst Q none (subst P e a))
