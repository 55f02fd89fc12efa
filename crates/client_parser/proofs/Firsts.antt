-- The first of what is beyond a limit, found list by list.
use Rattle.std.proofs.Common.{◌≡◌, arith, ℕ, zero, suc, List, [], ◌∷◌, ◌++◌, ◌+◌, ◌<◌, get_or, length, map, refl, sym, ◌∙◌, ap}
use Rattle.std.proofs.lemmas.List.{drop_more}
use Rattle.std.specs.List.{flat_map}
use Rattle.std.specs.Prelude.{Option, Some, None, drop, slice_get}
use Rattle.client_model.specs.TreeLimits.{excess_of_procedure}
use Rattle.client_model.specs.declared.tree.Proc.{Proc}
use Rattle.easl_model.specs.TreeLimits.{beyond}
use Rattle.easl_model.specs.declared.fault.Excess.{Excess}
use Rattle.easl_model.specs.declared.fault.Which.{Which}
use Rattle.easl_model.specs.declared.fault.Which.TheVariants as which
use Rattle.easl_model.specs.declared.tree.Param.{Param}

-- the first beyond a limit stands behind as many as it allows
first_behind : (w : Which) (limit : ℕ) (ps : List Param) (p d : Param) → limit < length ps → p ≡ get_or ps limit d
    → Some (record { which = w; place = p.place }) ≡ slice_get (beyond limit w (map (λ q. q.place) ps)) 0
first_behind w limit [] p d within is = absurd (omega arith)
first_behind w zero (q ∷ ps) p d within is = ap (λ (r : Param). let x : Option Excess = Some (record { which = w; place = r.place }) in x) is
first_behind w (suc limit) (q ∷ ps) p d within is = first_behind w limit ps p d (omega arith) is

pub some_beyond : (procedure : Proc) (p : Param) → 16 < length procedure.params → p ≡ get_or procedure.params 16 p
    → Some (record { which = which.Parameters; place = p.place }) ≡ slice_get (excess_of_procedure procedure) 0
some_beyond procedure p = first_behind which.Parameters 16 procedure.params p p

first_of_both : (xs ys : List Excess) (x : Excess) → Some x ≡ slice_get xs 0 → Some x ≡ slice_get (xs ++ ys) 0
first_of_both [] ys x is = absurd cc
first_of_both (z ∷ xs) ys x is = is

first_of_second : (xs ys : List Excess) → None ≡ slice_get xs 0 → slice_get (xs ++ ys) 0 ≡ slice_get ys 0
first_of_second [] ys is = refl
first_of_second (z ∷ xs) ys is = absurd cc

abbrev first_in : List Proc → Option Excess
first_in ps = slice_get (flat_map excess_of_procedure ps) 0

-- at a procedure of some: its own first, or the first behind it
pub found_here : (ps : List Proc) (i : ℕ) (p : Proc) (x : Excess) (all : Option Excess) → i < length ps → p ≡ get_or ps i p
    → Some x ≡ slice_get (excess_of_procedure p) 0 → first_in (drop i ps) ≡ all → Some x ≡ all
found_here ps i p x all within is found so =
    first_of_both (excess_of_procedure p) (flat_map excess_of_procedure (drop (i + 1) ps)) x found
    ∙ sym (ap first_in (drop_more ps i p within ∙ ap (λ q. q ∷ drop (i + 1) ps) (sym is))) ∙ so

pub found_behind : (ps : List Proc) (i : ℕ) (p : Proc) (all : Option Excess) → i < length ps → p ≡ get_or ps i p
    → None ≡ slice_get (excess_of_procedure p) 0 → first_in (drop i ps) ≡ all → first_in (drop (i + 1) ps) ≡ all
found_behind ps i p all within is none so =
    sym (first_of_second (excess_of_procedure p) (flat_map excess_of_procedure (drop (i + 1) ps)) none)
    ∙ sym (ap first_in (drop_more ps i p within ∙ ap (λ q. q ∷ drop (i + 1) ps) (sym is))) ∙ so

pub none_first : (xs : List Excess) → slice_get xs 0 ≡ None → xs ≡ []
none_first [] is = refl
none_first (x ∷ xs) is = absurd cc
