-- A point breaks a clause where the clause of the call that is made there fails first.
use Rattle.std.proofs.Common.{◌≡◌, ◌∙◌, ℕ, map, ap, refl, subst, sym}
use Rattle.std.specs.Prelude.{Option, Some, None, slice_get}
use Rattle.std.specs.Option.{option_map_or}
use Rattle.client_facts.specs.Setting.{Setting}
use Rattle.client_model.specs.declared.form.CallSite.{CallSite}
use Rattle.client_model.specs.declared.form.Point.{Point}
use Rattle.client_model.specs.declared.form.Point.TheVariants as point
use Rattle.client_steps.specs.Deeds.{Broke, Deed, Did, answered, called, done, done_at, made}
use Rattle.client_steps.specs.States.{State, object_of, point_at}
use Rattle.easl_heap.specs.Clause.{requires_of}
use Rattle.walk_laws.specs.Points.{call_made}
use Rattle.walk_laws.proofs.Objects.{inner}

-- what a deed that breaks a clause shows
abbrev call_of : Deed → ℕ
call_of (Broke call clause) = call
call_of (Did s steps) = 0

abbrev clause_of : Deed → ℕ
clause_of (Broke call clause) = clause
clause_of (Did s steps) = 0

not_broke : {s : State} {k call clause : ℕ} → Did s k ≡ Broke call clause → ⊥
not_broke is = absurd cc

no_call : {call : ℕ} → None ≡ Some call → ⊥
no_call is = absurd cc

module _ (g : Setting) (s : State) where
  -- the clause of the call of this number fails first
  pub record IsBroken (number clause : ℕ) : Type 0 where
    pub site : CallSite
    pub site_is : slice_get g.client.calls number ≡ Some site
    pub requires : requires_of s.heap g.form site.method (map (object_of s) site.args) ≡ Some clause

  called_broke : (target : Option ℕ) (number call clause : ℕ) → called g.form g.client target number s ≡ Broke call clause →
      (number ≡ call) × IsBroken number clause
  called_broke target number call clause is = of_site (slice_get g.client.calls number) refl is
    where
      of_clause : (site : CallSite) → slice_get g.client.calls number ≡ Some site → (c : Option ℕ) →
          requires_of s.heap g.form site.method (map (object_of s) site.args) ≡ c →
          answered g.form target number site.method (map (object_of s) site.args) c s ≡ Broke call clause → (number ≡ call) × IsBroken number clause
      of_clause site at None requires e = absurd (not_broke e)
      of_clause site at (Some c) requires e = (ap call_of e, record { site = site; site_is = at; requires = requires ∙ ap (λ d. Some (clause_of d)) e })

      of_site : (o : Option CallSite) → slice_get g.client.calls number ≡ o →
          option_map_or (λ site. made g.form target number site s) o (Did s 0) ≡ Broke call clause → (number ≡ call) × IsBroken number clause
      of_site None at e = absurd (not_broke e)
      of_site (Some site) at e = of_clause site at (requires_of s.heap g.form site.method (map (object_of s) site.args)) refl e

  -- the call that is made at the point
  point_broke : (x : Point) (call clause : ℕ) → done g.form g.client x s ≡ Broke call clause → (call_made (Some x) ≡ Some call) × IsBroken call clause
  point_broke (point.Copy target source) call clause is = absurd (not_broke is)
  point_broke (point.Component target number) call clause is =
      let broke = called_broke target number call clause is in
      (ap Some broke.0, subst (λ k. IsBroken k clause) broke.0 broke.1)
  point_broke (point.Call target callee args place) call clause is = absurd (not_broke is)
  point_broke (point.Branch None) call clause is = absurd (not_broke is)
  point_broke (point.Branch (Some number)) call clause is =
      let broke = called_broke None number call clause is in
      (ap Some broke.0, subst (λ k. IsBroken k clause) broke.0 broke.1)
  point_broke point.Nothing call clause is = absurd (not_broke is)

  called_breaks : (target : Option ℕ) (number clause : ℕ) → IsBroken number clause → called g.form g.client target number s ≡ Broke number clause
  called_breaks target number clause broken =
      ap (λ o. option_map_or (λ site. made g.form target number site s) o (Did s 0)) broken.site_is
      ∙ ap (λ c. answered g.form target number broken.site.method (map (object_of s) broken.site.args) c s) broken.requires

  point_breaks : (x : Point) (call clause : ℕ) → call_made (Some x) ≡ Some call → IsBroken call clause → done g.form g.client x s ≡ Broke call clause
  point_breaks (point.Copy target source) call clause is broken = absurd (no_call is)
  point_breaks (point.Component target number) call clause is broken =
      subst (λ c. called g.form g.client target c s ≡ Broke call clause) (sym (inner is)) (called_breaks target call clause broken)
  point_breaks (point.Call target callee args place) call clause is broken = absurd (no_call is)
  point_breaks (point.Branch None) call clause is broken = absurd (no_call is)
  point_breaks (point.Branch (Some number)) call clause is broken =
      subst (λ c. called g.form g.client None c s ≡ Broke call clause) (sym (inner is)) (called_breaks None call clause broken)
  point_breaks point.Nothing call clause is broken = absurd (no_call is)

  pub broken_at : (p n call clause : ℕ) → done_at g.form g.client p n s ≡ Broke call clause →
      (call_made (point_at g.client p n) ≡ Some call) × IsBroken call clause
  broken_at p n call clause is = of_point (point_at g.client p n) refl is
    where
      of_point : (o : Option Point) → point_at g.client p n ≡ o → option_map_or (λ x. done g.form g.client x s) o (Did s 0) ≡ Broke call clause →
          (call_made (point_at g.client p n) ≡ Some call) × IsBroken call clause
      of_point None at e = absurd (not_broke e)
      of_point (Some x) at e = let broke = point_broke x call clause e in (ap call_made at ∙ broke.0, broke.1)

  pub breaks_at : (p n call clause : ℕ) → call_made (point_at g.client p n) ≡ Some call → IsBroken call clause →
      done_at g.form g.client p n s ≡ Broke call clause
  breaks_at p n call clause is broken = of_point (point_at g.client p n) refl is
    where
      of_point : (o : Option Point) → point_at g.client p n ≡ o → call_made o ≡ Some call →
          option_map_or (λ x. done g.form g.client x s) (point_at g.client p n) (Did s 0) ≡ Broke call clause
      of_point None at e = absurd (no_call e)
      of_point (Some x) at e = ap (λ o. option_map_or (λ x. done g.form g.client x s) o (Did s 0)) at ∙ point_breaks x call clause e broken
