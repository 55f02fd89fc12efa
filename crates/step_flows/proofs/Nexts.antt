-- Facts of the point that comes next, added one by one.
use Rattle.std.proofs.Common.{ℕ, ◌≡◌, Bool, true, false, List, Option, Contains, refl, sym, subst, ap, ◌∙◌}
use Rattle.std.proofs.lemmas.Bool.{false≢true}
use Rattle.client_facts.specs.FactSets.{IsWith}
use Rattle.client_facts.specs.Facts.{IsFact}
use Rattle.client_facts.specs.Flows.{IsPut, copied, names_of_update, positions}
use Rattle.client_facts.specs.Setting.{Setting}
use Rattle.client_facts.specs.declared.fact.Fact.{Fact}
use Rattle.client_facts.specs.declared.fact.Fact.TheVariants.{Of}
use Rattle.client_model.specs.declared.form.CallSite.{CallSite}
use Rattle.easl_model.specs.declared.form.Method.{Method}
use Rattle.method_abstraction.specs.declared.entry.Disjunct.{Disjunct}
use Rattle.method_abstraction.specs.declared.entry.Update.{Update}
use Rattle.step_flows.proofs.Adding.{Adds-nothing, Adds-same, Adds-with}
use Rattle.step_flows.specs.Adding.{Adds, IsBySome}
use Rattle.step_flows.specs.Steps.{IsCopied, IsCopyAt, IsMade, IsMadeAt, IsMadeBy, IsThisAt}

-- a fact that is none of the point
pub no_fact : (g : Setting) (p m : ℕ) (d : Fact) (b : Bool) (old : List Fact) → b ≡ false → (IsFact g p m d → b ≡ true) → Adds (IsThisAt g p m d) old old
no_fact g p m d b old e only =
    let P : Fact → Type 0 = λ f. IsFact g p m f in
    Adds-nothing (IsThisAt g p m d) old (λ f r. false≢true (sym e ∙ only (subst P r.is r.fact)))

-- and one that is
pub one_fact : (g : Setting) (p m : ℕ) (d : Fact) (b : Bool) (old new : List Fact) → b ≡ true → (b ≡ true → IsFact g p m d) → IsWith old d new
    → Adds (IsThisAt g p m d) old new
one_fact g p m d b old new e so w = Adds-with (IsThisAt g p m d) d old new w (λ f r. r.is) (record { is = refl; fact = so e })

pub no_copy : (g : Setting) (p m : ℕ) (t s : Option ℕ) (family : ℕ) (before args shown : List ℕ) (old : List Fact) → shown ≡ args
    → (copied t s shown ≡ before → ⊥)
    → Adds (IsCopyAt g p m t s family before args) old old
no_copy g p m t s family before args shown old e never =
    Adds-nothing (IsCopyAt g p m t s family before args) old (λ f r. never (ap (copied t s) e ∙ r.copy))

pub one_copy : (g : Setting) (p m : ℕ) (t s : Option ℕ) (family : ℕ) (before args twin : List ℕ) (old new : List Fact) → twin ≡ args → copied t s args ≡ before
    → Adds (IsThisAt g p m (Of family twin)) old new → Adds (IsCopyAt g p m t s family before args) old new
one_copy g p m t s family before args twin old new e copy a =
    Adds-same (IsThisAt g p m (Of family twin)) (IsCopyAt g p m t s family before args) old new
    (λ f r. record { is = r.is ∙ ap (Of family) e; copy = copy; fact = r.fact })
    (λ f q. record { is = q.is ∙ ap (Of family) (sym e); fact = q.fact })
    a

-- all that are so, from lists that hold all that may be so
pub all_copies : (g : Setting) (p m : ℕ) (t s : Option ℕ) (family : ℕ) (before : List ℕ) (lists shown : List (List ℕ)) (old new : List Fact) → shown ≡ lists
    → ((args : List ℕ) → copied t s args ≡ before → Contains lists args)
    → Adds (IsBySome (IsCopyAt g p m t s family before) shown) old new → Adds (IsCopied g p m t s family before) old new
all_copies g p m t s family before lists shown old new e all a =
    let P : List ℕ → List (List ℕ) → Type 0 = λ args v. Contains v args in
    Adds-same (IsBySome (IsCopyAt g p m t s family before) shown) (IsCopied g p m t s family before) old new
    (λ f r. record { args = r.chosen; copy = r.true_of })
    (λ f q. record { chosen = q.args; among = subst (P q.args) (sym e) (all q.args q.copy.copy); true_of = q.copy })
    a

pub one_made : (g : Setting) (p m : ℕ) (t : Option ℕ) (results : ℕ) (method : Method) (site : CallSite) (d : Fact) (family : ℕ) (disjunct : Disjunct)
    (args twin : List ℕ) (old new : List Fact)
    → twin ≡ args → positions t args ≡ results → IsPut (names_of_update results args method site) disjunct d
    → Adds (IsThisAt g p m (Of family twin)) old new → Adds (IsMadeAt g p m t results method site d family disjunct args) old new
one_made g p m t results method site d family disjunct args twin old new e places put_in a =
    Adds-same (IsThisAt g p m (Of family twin)) (IsMadeAt g p m t results method site d family disjunct args) old new
    (λ f r. record { is = r.is ∙ ap (Of family) e; places = places; put_in = put_in; fact = r.fact })
    (λ f q. record { is = q.is ∙ ap (Of family) (sym e); fact = q.fact })
    a

pub all_made : (g : Setting) (p m : ℕ) (t : Option ℕ) (results : ℕ) (method : Method) (site : CallSite) (d : Fact) (family : ℕ) (disjunct : Disjunct)
    (lists shown : List (List ℕ)) (old new : List Fact)
    → shown ≡ lists → ((args : List ℕ) (f : Fact) → IsMadeAt g p m t results method site d family disjunct args f → Contains lists args)
    → Adds (IsBySome (IsMadeAt g p m t results method site d family disjunct) shown) old new
    → Adds (IsMade g p m t results method site d family disjunct) old new
all_made g p m t results method site d family disjunct lists shown old new e all a =
    let P : List ℕ → List (List ℕ) → Type 0 = λ args v. Contains v args in
    Adds-same (IsBySome (IsMadeAt g p m t results method site d family disjunct) shown) (IsMade g p m t results method site d family disjunct) old new
    (λ f r. record { args = r.chosen; made = r.true_of })
    (λ f q. record { chosen = q.args; among = subst (P q.args) (sym e) (all q.args f q.made); true_of = q.made })
    a

-- an entry on the method
pub update_given : (g : Setting) (p m : ℕ) (t : Option ℕ) (method : Method) (site : CallSite) (d : Fact) (u : Update) (shown : List Disjunct)
    (old new : List Fact) → u.method ≡ site.method
    → shown ≡ u.disjuncts → Adds (IsBySome (IsMade g p m t u.results method site d u.family) shown) old new → Adds (IsMadeBy g p m t method site d u) old new
update_given g p m t method site d u shown old new of_method e a =
    let P : List Disjunct → Type 0 = λ v. Adds (IsBySome (IsMade g p m t u.results method site d u.family) v) old new in
    Adds-same (IsBySome (IsMade g p m t u.results method site d u.family) u.disjuncts) (IsMadeBy g p m t method site d u) old new
    (λ f r. record { of_method = of_method; made = r })
    (λ f q. q.made)
    (subst P e a)
