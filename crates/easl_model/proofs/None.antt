-- Lists of faults that are empty.
use Rattle.std.proofs.Common.{◌≡◌, ℕ, zero, suc, Bool, true, false, List, [], ◌∷◌, ◌++◌, refl, subst}
use Rattle.std.specs.List.{flat_map}
use Rattle.std.specs.Prelude.{Some, not, slice_get}
use Rattle.easl_model.specs.declared.place.Place.{Place}
use Rattle.easl_model.specs.{broken_if, is_empty}
use Rattle.easl_model.specs.declared.fault.Rule.{Rule}

pub none_of_both : {A : Type 0} (xs ys : List A) → xs ++ ys ≡ [] → (xs ≡ []) × (ys ≡ [])
none_of_both [] ys e = (refl, e)
none_of_both (x ∷ xs) ys e = absurd cc

pub none_of_three : {A : Type 0} (xs ys zs : List A) → xs ++ ys ++ zs ≡ [] → (xs ≡ []) × (ys ≡ []) × (zs ≡ [])
none_of_three xs ys zs e =
    let last = none_of_both (xs ++ ys) zs e in
    let first = none_of_both xs ys last.0 in
    (first.0, first.1, last.1)

pub none_of_four : {A : Type 0} (xs ys zs us : List A) → xs ++ ys ++ zs ++ us ≡ [] → (xs ≡ []) × (ys ≡ []) × (zs ≡ []) × (us ≡ [])
none_of_four xs ys zs us e =
    let last = none_of_both (xs ++ ys ++ zs) us e in
    let first = none_of_three xs ys zs last.0 in
    (first.0, first.1, first.2, last.1)

pub none_of_five : {A : Type 0} (xs ys zs us vs : List A) → xs ++ ys ++ zs ++ us ++ vs ≡ [] → (xs ≡ []) × (ys ≡ []) × (zs ≡ []) × (us ≡ []) × (vs ≡ [])
none_of_five xs ys zs us vs e =
    let last = none_of_both (xs ++ ys ++ zs ++ us) vs e in
    let first = none_of_four xs ys zs us last.0 in
    (first.0, first.1, first.2, first.3, last.1)

pub none_at : {A B : Type 0} (f : A → List B) (xs : List A) (k : ℕ) (x : A) → flat_map f xs ≡ [] → slice_get xs k ≡ Some x → f x ≡ []
none_at f [] k x e at = absurd cc
none_at f (y ∷ xs) zero x e at = let same : y ≡ x = cc in subst (λ z. f z ≡ []) same (none_of_both (f y) (flat_map f xs) e).0
none_at f (y ∷ xs) (suc k) x e at = none_at f xs k x (none_of_both (f y) (flat_map f xs) e).1 at

pub not_broken : (b : Bool) (rule : Rule) (place : Place) → broken_if b rule place ≡ [] → b ≡ false
not_broken true rule place e = absurd cc
not_broken false rule place e = refl

pub not_not : (b : Bool) → not b ≡ false → b ≡ true
not_not true e = refl
not_not false e = absurd cc

pub empty_is : (ns : List ℕ) → is_empty ns ≡ true → ns ≡ []
empty_is [] e = refl
empty_is (n ∷ ns) e = absurd cc
