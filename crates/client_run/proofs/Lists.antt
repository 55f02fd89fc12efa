-- What stands in lists that are made of others.
use Rattle.std.proofs.Common.{◌≡◌, ℕ, zero, suc, ◌+◌, List, [], ◌∷◌, ◌++◌, map, length, refl, ap, subst, ◌∙◌, arith}
use Rattle.std.specs.Prelude.{Option, Some, slice_get}

-- each that stands in the list is so
abbrev pub Each : {A : Type 0} → (A → Type 0) → List A → Type 0
Each P xs = (k : ℕ) (y : _) → slice_get xs k ≡ Some y → P y

pub each_none : {A : Type 0} (P : A → Type 0) → Each P []
each_none P zero y is = absurd cc
each_none P (suc k) y is = absurd cc

same_some : {A : Type 0} (x y : A) → Some x ≡ Some y → x ≡ y
same_some x y is = cc

pub each_more : {A : Type 0} (P : A → Type 0) (x : A) (xs : List A) → P x → Each P xs → Each P (x ∷ xs)
each_more P x xs here rest zero y is = subst P (same_some x y is) here
each_more P x xs here rest (suc k) y is = rest k y is

pub each_both : {A : Type 0} (P : A → Type 0) (xs ys : List A) → Each P xs → Each P ys → Each P (xs ++ ys)
each_both P [] ys one other = other
each_both P (x ∷ xs) ys one other = each_more P x (xs ++ ys) (one 0 x refl) (each_both P xs ys (λ k y is. one (suc k) y is) other)

pub each_made : {A B : Type 0} (P : B → Type 0) (f : A → B) (xs : List A) → ((x : A) → P (f x)) → Each P (map f xs)
each_made P f [] all = each_none P
each_made P f (x ∷ xs) all = each_more P (f x) (map f xs) (all x) (each_made P f xs all)

pub each_made_of : {A B : Type 0} (P : B → Type 0) (f : A → B) (xs : List A) → Each (λ x. P (f x)) xs → Each P (map f xs)
each_made_of P f [] all = each_none P
each_made_of P f (x ∷ xs) all = each_more P (f x) (map f xs) (all 0 x refl) (each_made_of P f xs (λ k y is. all (suc k) y is))

-- the second list stands in the first, from this number on
abbrev pub Sits : {A : Type 0} → List A → ℕ → List A → Type 0
Sits whole n part = (k : ℕ) (y : _) → slice_get part k ≡ Some y → slice_get whole (n + k) ≡ Some y

moved : {A : Type 0} (xs : List A) (m n : ℕ) (o : Option A) → m ≡ n → slice_get xs n ≡ o → slice_get xs m ≡ o
moved xs m n o same is = ap (slice_get xs) same ∙ is

pub sits_whole : {A : Type 0} (xs : List A) → Sits xs 0 xs
sits_whole xs k y is = moved xs (0 + k) k (Some y) (omega arith) is

pub sits_head : {A : Type 0} (whole : List A) (n : ℕ) (x : A) (xs : List A) → Sits whole n (x ∷ xs) → slice_get whole n ≡ Some x
sits_head whole n x xs sits = moved whole n (n + 0) (Some x) (omega arith) (sits 0 x refl)

pub sits_tail : {A : Type 0} (whole : List A) (n : ℕ) (x : A) (xs : List A) → Sits whole n (x ∷ xs) → Sits whole (suc n) xs
sits_tail whole n x xs sits k y is = moved whole (suc n + k) (n + suc k) (Some y) (omega arith) (sits (suc k) y is)

get_front : {A : Type 0} (xs ys : List A) (k : ℕ) (y : A) → slice_get xs k ≡ Some y → slice_get (xs ++ ys) k ≡ Some y
get_front [] ys zero y is = absurd cc
get_front [] ys (suc k) y is = absurd cc
get_front (x ∷ xs) ys zero y is = is
get_front (x ∷ xs) ys (suc k) y is = get_front xs ys k y is

get_back : {A : Type 0} (xs ys : List A) (k : ℕ) (y : A) → slice_get ys k ≡ Some y → slice_get (xs ++ ys) (length xs + k) ≡ Some y
get_back [] ys k y is = moved ys (0 + k) k (Some y) (omega arith) is
get_back (x ∷ xs) ys k y is =
    moved (x ∷ (xs ++ ys)) (suc (length xs) + k) (suc (length xs + k)) (Some y) (omega arith) (get_back xs ys k y is)

pub sits_front : {A : Type 0} (whole : List A) (n : ℕ) (xs ys : List A) → Sits whole n (xs ++ ys) → Sits whole n xs
sits_front whole n xs ys sits k y is = sits k y (get_front xs ys k y is)

pub sits_back : {A : Type 0} (whole : List A) (n m : ℕ) (xs ys : List A) → m ≡ n + length xs → Sits whole n (xs ++ ys) → Sits whole m ys
sits_back whole n m xs ys at sits k y is =
    moved whole (m + k) (n + (length xs + k)) (Some y) (omega arith) (sits (length xs + k) y (get_back xs ys k y is))
