-- Which statements make calls.
use Rattle.std.proofs.Common.{◌≡◌, ℕ, suc, true, false, List, [], ◌∷◌, ap, inl, inr, refl, subst, sym, ◌∙◌}
use Rattle.std.specs.Prelude.{Bool, Option, Some, None, option_and_then, ◌⊎◌}
use Rattle.client_model.specs.Lookups.{is_same}
use Rattle.client_model.specs.declared.tree.Call.{Call}
use Rattle.client_model.specs.declared.tree.Rhs.{Rhs}
use Rattle.client_model.specs.declared.tree.Rhs.TheVariants as rhs
use Rattle.client_points.specs.Writing.{Makes, at}
use Rattle.client_model.specs.Contexts.{Context, Situated}
use Rattle.client_model.specs.Points.{site_at, site_by, value_in}
use Rattle.client_model.specs.Settings.{Callee, Header, Setting, callee_of, procedure_from}
use Rattle.easl_model.specs.declared.tree.Word.{Word}

-- by the callee of its value
by_callee : (x : Situated) (v : Rhs) (m : Option Callee) → value_in x.statement ≡ Some v → m ≡ callee_of x.setting x.context.scope v
    → option_and_then (λ k. site_by x v k.called) m ≡ site_at x
by_callee x v m is called =
    ap (option_and_then (λ k. site_by x v k.called)) called
    ∙ ap (option_and_then (λ w. option_and_then (λ k. site_by x w k.called) (callee_of x.setting x.context.scope w))) (sym is)

-- nothing is called
makes_none : (s : Setting) (c : Context) (v : Rhs) → None ≡ callee_of s c.scope v → Makes s c (Some v) None
makes_none s c v none x is = by_callee (at s c x) v None is none

-- a procedure's call is none
procedure_is_none : (x : Situated) (v : Rhs) (number : ℕ) (hs : List Header) (name : List ℕ)
    → None ≡ option_and_then (λ k. site_by x v k.called) (procedure_from number hs name)
procedure_is_none x v number [] name = refl
procedure_is_none x v number (h ∷ rest) name = by (is_same h.name name) refl (procedure_is_none x v (suc number) rest name)
  where
    by : (same : Bool) → is_same h.name name ≡ same → None ≡ option_and_then (λ k. site_by x v k.called) (procedure_from (suc number) rest name)
        → None ≡ option_and_then (λ k. site_by x v k.called) (procedure_from number (h ∷ rest) name)
    by true is others = rw is refl
    by false is others = rw is others

procedure_makes_none : (s : Setting) (c : Context) (y : Call) → Makes s c (Some (rhs.Call y)) None
procedure_makes_none s c y x is =
    procedure_is_none (at s c x) (rhs.Call y) 1 s.procedures y.procedure.name ∙ by_callee (at s c x) (rhs.Call y) (procedure_from 1 s.procedures y.procedure.name) is refl

-- a copy, or a call of a procedure
pub makes_no_call : (s : Setting) (c : Context) (v : Rhs) → ((w : Word) × (v ≡ rhs.Copy w)) ⊎ ((y : Call) × (v ≡ rhs.Call y)) → Makes s c (Some v) None
makes_no_call s c v (inl (w, is)) = subst (λ u. Makes s c (Some u) None) (sym is) (makes_none s c (rhs.Copy w) refl)
makes_no_call s c v (inr (y, is)) = subst (λ u. Makes s c (Some u) None) (sym is) (procedure_makes_none s c y)
