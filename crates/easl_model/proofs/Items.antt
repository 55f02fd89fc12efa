-- Items of lists by place.
use Rattle.std.proofs.Common.{◌≡◌, ℕ, zero, suc, ◌<◌, List, [], ◌∷◌, length, refl, subst, arith}
use Rattle.std.specs.List.{AllZip}
use Rattle.std.specs.Prelude.{All, Some, get_or, slice_get}
use Rattle.std.proofs.lemmas.Option.{get_or_from_slice_get, slice_get-get_or, slice_get_within}

pub item_at : {X : Type 0} (xs : List X) (k : ℕ) → k < length xs → (x : X) × (slice_get xs k ≡ Some x)
item_at [] k within = absurd (omega arith)
item_at (x ∷ xs) zero within = (x, refl)
item_at (x ∷ xs) (suc k) within = item_at xs k (omega arith)

pub all_at : {X : Type 0} (P : X → Type 0) (xs : List X) (k : ℕ) (x : X) → All P xs → slice_get xs k ≡ Some x → P x
all_at P xs k x all there = subst P (get_or_from_slice_get xs k x x there) (all k x (slice_get_within xs k x there))

pub all_from_places : {X : Type 0} (P : X → Type 0) (xs : List X) → ((k : ℕ) (x : X) → slice_get xs k ≡ Some x → P x) → All P xs
all_from_places P xs each k d within = each k (get_or xs k d) (slice_get-get_or xs k d within)

-- the item of the other list at its place
pub zip_from : {A B : Type 0} (R : A → B → Type 0) (xs : List A) (ys : List B) (k : ℕ) (x : A) → AllZip R xs ys → slice_get xs k ≡ Some x
    → (y : B) × (slice_get ys k ≡ Some y) × R x y
zip_from R [] ys k x zip at = absurd cc
zip_from R (z ∷ xs) [] k x zip at = absurd zip
zip_from R (z ∷ xs) (y ∷ ys) zero x zip at = (y, refl, subst (λ a. R a y) (let e : z ≡ x = cc in e) zip.0)
zip_from R (z ∷ xs) (y ∷ ys) (suc k) x zip at = zip_from R xs ys k x zip.1 at

pub zip_at : {A B : Type 0} (R : A → B → Type 0) (xs : List A) (ys : List B) (k : ℕ) (y : B) → AllZip R xs ys → slice_get ys k ≡ Some y
    → (x : A) × (slice_get xs k ≡ Some x) × R x y
zip_at R [] [] k y zip there = absurd (cc)
zip_at R [] (z ∷ ys) k y zip there = absurd zip
zip_at R (x ∷ xs) [] k y zip there = absurd zip
zip_at R (x ∷ xs) (z ∷ ys) zero y zip there = (x, refl, subst (R x) (let e : z ≡ y = cc in e) zip.0)
zip_at R (x ∷ xs) (z ∷ ys) (suc k) y zip there = zip_at R xs ys k y zip.1 there
