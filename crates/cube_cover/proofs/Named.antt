-- Lists by recursion and by number.
use Rattle.std.proofs.Common.{◌≡◌, ℕ, zero, suc, ◌<◌, List, [], ◌∷◌, length, get_or, map, All, AllPairs, Contains, Some, refl, ap, inl, inr, ⊎_elim, arith}
use Rattle.std.specs.Prelude.{slice_get}
use Rattle.std.specs.List.{AllZip}
use Rattle.cube_search.specs.Lists.{Each, IsIn, Rises}

pub in_contains : {X : Type 0} (x : X) (xs : List X) → IsIn x xs → Contains xs x
in_contains x [] i = absurd i
in_contains x (y ∷ ys) i =
    ⊎_elim (λ (e : y ≡ x). (zero, omega arith, e)) (λ (j : IsIn x ys). let c = in_contains x ys j in (suc c.0, omega (arith, c.1), c.2)) i

pub contains_in : {X : Type 0} (x : X) (xs : List X) → Contains xs x → IsIn x xs
contains_in {X} x xs c = at xs c.0 c.1 c.2
  where
    at : (ys : List X) (k : ℕ) → k < length ys → get_or ys k x ≡ x → IsIn x ys
    at [] k h e = absurd (omega arith)
    at (y ∷ ys) zero h e = inl e
    at (y ∷ ys) (suc k) h e = inr (at ys k (omega arith) e)

pub each_get : {X : Type 0} (P : X → Type 0) (xs : List X) → Each P xs → All P xs
each_get P [] each k d h = absurd (omega arith)
each_get P (x ∷ xs) each zero d h = each.0
each_get P (x ∷ xs) each (suc k) d h = each_get P xs each.1 k d (omega arith)

pub get_each : {X : Type 0} (P : X → Type 0) (xs : List X) → All P xs → Each P xs
get_each P [] all = tt
get_each P (x ∷ xs) all = (all 0 x (omega arith), get_each P xs (λ k d h. all (suc k) d (omega (arith, h))))

pub rises_pairs : {X : Type 0} (R : X → X → Type 0) (xs : List X) → Rises R xs → AllPairs R xs
rises_pairs R [] up i j d h k = absurd (omega arith)
rises_pairs R (x ∷ xs) up i zero d h k = absurd (omega arith)
rises_pairs R (x ∷ xs) up zero (suc j) d h k = each_get (R x) xs up.0 j d (omega arith)
rises_pairs R (x ∷ xs) up (suc i) (suc j) d h k = rises_pairs R xs up.1 i j d (omega arith) (omega arith)

pub pairs_rises : {X : Type 0} (R : X → X → Type 0) (xs : List X) → AllPairs R xs → Rises R xs
pairs_rises R [] all = tt
pairs_rises R (x ∷ xs) all = (
  get_each (R x) xs (λ k d h. all 0 (suc k) d (omega arith) (omega (arith, h))),
  pairs_rises R xs (λ i j d h k. all (suc i) (suc j) d (omega (arith, h)) (omega (arith, k))),
)

-- an item of a list that is made item by item
pub at_map : {X Y : Type 0} (f : X → Y) (xs : List X) (k : ℕ) (y : Y) → slice_get (map f xs) k ≡ Some y → (x : X) × (slice_get xs k ≡ Some x) × (f x ≡ y)
at_map f [] k y e = absurd (cc)
at_map f (x ∷ xs) zero y e = (x, refl, let same : f x ≡ y = cc in same)
at_map f (x ∷ xs) (suc k) y e = at_map f xs k y e

pub map_at : {X Y : Type 0} (f : X → Y) (xs : List X) (k : ℕ) (x : X) → slice_get xs k ≡ Some x → slice_get (map f xs) k ≡ Some (f x)
map_at f [] k x e = absurd (cc)
map_at f (z ∷ xs) zero x e = let same : z ≡ x = cc in ap (λ w. Some (f w)) same
map_at f (z ∷ xs) (suc k) x e = map_at f xs k x e

pub zip_at : {X Y : Type 0} (R : X → Y → Type 0) (xs : List X) (ys : List Y) (n : ℕ) (d : X) (e : Y) → AllZip R xs ys → n < length xs
    → R (get_or xs n d) (get_or ys n e)
zip_at R [] [] n d e zip h = absurd (omega arith)
zip_at R [] (y ∷ ys) n d e zip h = absurd zip
zip_at R (x ∷ xs) [] n d e zip h = absurd zip
zip_at R (x ∷ xs) (y ∷ ys) zero d e zip h = zip.0
zip_at R (x ∷ xs) (y ∷ ys) (suc n) d e zip h = zip_at R xs ys n d e zip.1 (omega arith)

-- what is so for all items that are handed on is so for all that are made of them
pub zip_each : {X Y : Type 0} (R : X → Y → Type 0) (P : Y → Type 0) → ((x : X) (y : Y) → R x y → P y) → (xs : List X) (ys : List Y) → AllZip R xs ys → Each P ys
zip_each R P f [] [] zip = tt
zip_each R P f [] (y ∷ ys) zip = absurd zip
zip_each R P f (x ∷ xs) [] zip = tt
zip_each R P f (x ∷ xs) (y ∷ ys) zip = (f x y zip.0, zip_each R P f xs ys zip.1)
