-- Values that `==` calls equal are one.
use Rattle.std.specs.Prelude.{◌≡◌, ℕ, Bool, true, ◌&&◌, List, [], ◌∷◌, nat_eq, refl}
use Rattle.std.specs.Cmp.Lexicographic.{pointwise}
use Rattle.std.specs.Cmp.{first_so, second_so}
use Rattle.std.proofs.lemmas.Bool.{eqb-true}

pub same_number : (x y : ℕ) → nat_eq x y ≡ true → x ≡ y
same_number x y h = eqb-true x y h

pub same_pair : {A B : Type 0} {e : A → A → Bool} {f : B → B → Bool} → ((x y : A) → e x y ≡ true → x ≡ y) → ((x y : B) → f x y ≡ true → x ≡ y) → (x y : A × B) → (e x.0 y.0 && f x.1 y.1) ≡ true → x ≡ y
same_pair {A} {B} {e} {f} first second x y h = λ i. (first x.0 y.0 (first_so (e x.0 y.0) (f x.1 y.1) h) i, second x.1 y.1 (second_so (e x.0 y.0) (f x.1 y.1) h) i)

pub same_list : {A : Type 0} {e : A → A → Bool} → ((x y : A) → e x y ≡ true → x ≡ y) → (xs ys : List A) → pointwise e xs ys ≡ true → xs ≡ ys
same_list {A} {e} same [] [] h = refl
same_list {A} {e} same [] (y ∷ ys) h = cc
same_list {A} {e} same (x ∷ xs) [] h = cc
same_list {A} {e} same (x ∷ xs) (y ∷ ys) h = λ i. same x y (first_so (e x y) (pointwise e xs ys) h) i ∷ same_list same xs ys (second_so (e x y) (pointwise e xs ys) h) i
