-- The call of `main`, among procedures that are looked through from the first.
use Rattle.std.proofs.Common.{◌≡◌, ℕ, suc, ◌+◌, ◌<◌, ◌≤◌, true, false, List, [], ◌∷◌, ap, arith, drop, get_or, length, map, refl, sym, ◌∙◌}
use Rattle.std.specs.Prelude.{None}
use Rattle.client_model.specs.declared.form.Point.{Point}
use Rattle.client_model.specs.declared.form.Point.TheVariants as point
use Rattle.client_model.specs.declared.tree.Proc.{Proc}
use Rattle.client_points.proofs.Adding.{all_dropped, rest_is}
use Rattle.client_model.specs.CheckedForm.{call_of_main}
use Rattle.client_model.specs.HeaderFaults.{is_main}
use Rattle.client_model.specs.Trees.{Proc as Told, procedure_of}

first_is : (number : ℕ) (p : Told) (ps : List Told) → is_main p ≡ true → call_of_main number (p ∷ ps) ≡ point.Call None number [] p.name.place
first_is number p ps is = rw is refl

first_is_other : (number : ℕ) (p : Told) (ps : List Told) → is_main p ≡ false → call_of_main number (p ∷ ps) ≡ call_of_main (suc number) ps
first_is_other number p ps is = rw is refl

pub main_here : (ps : List Proc) (k number : ℕ) (p : Proc) (all : Point) → k < length ps → p ≡ get_or ps k p → is_main (procedure_of p) ≡ true → number ≡ suc k
    → call_of_main (suc k) (map procedure_of (drop k ps)) ≡ all → point.Call None number [] p.name.place ≡ all
main_here ps k number p all within is main counted left =
    ap (λ n. point.Call None n [] p.name.place) counted
    ∙ sym (first_is (suc k) (procedure_of p) (map procedure_of (drop (k + 1) ps)) main)
    ∙ sym (ap (λ qs. call_of_main (suc k) (map procedure_of qs)) (rest_is ps k p within is))
    ∙ left

pub main_later : (ps : List Proc) (k : ℕ) (p : Proc) (all : Point) → k < length ps → p ≡ get_or ps k p → is_main (procedure_of p) ≡ false
    → call_of_main (suc k) (map procedure_of (drop k ps)) ≡ all → call_of_main (suc (k + 1)) (map procedure_of (drop (k + 1) ps)) ≡ all
main_later ps k p all within is other left =
    let next : k + 1 ≡ suc k = omega arith in
    ap (λ n. call_of_main (suc n) (map procedure_of (drop (k + 1) ps))) next
    ∙ sym (first_is_other (suc k) (procedure_of p) (map procedure_of (drop (k + 1) ps)) other)
    ∙ sym (ap (λ qs. call_of_main (suc k) (map procedure_of qs)) (rest_is ps k p within is))
    ∙ left

pub main_nowhere : (ps : List Proc) (k : ℕ) (all : Point) → length ps ≤ k → call_of_main (suc k) (map procedure_of (drop k ps)) ≡ all → point.Nothing ≡ all
main_nowhere ps k all few left = sym (ap (λ qs. call_of_main (suc k) (map procedure_of qs)) (all_dropped ps k few)) ∙ left
