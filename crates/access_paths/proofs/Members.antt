-- The members of lists, by head and tail.
use Rattle.std.proofs.Common.{inl, inr, ◌⊎◌, ◌≡◌, ◌≢◌, ℕ, zero, suc, ◌<◌, ◌≤◌, List, [], ◌∷◌, ◌++◌, length, map, take, drop, get_or, slice_index_or, Contains, subst, arith, refl, ap, sym, ◌∙◌}
use Rattle.std.proofs.lemmas.List.Elements.{Contains-append_cases, Contains-append_left, Contains-append_right}
use Rattle.std.specs.List.{flat_map}
use Rattle.std.specs.Prelude.{AllPairs}

pub no_member : {X : Type 0} (x : X) → Contains [] x → ⊥
no_member x is = absurd (omega (arith, is.1))

pub head_member : {X : Type 0} (x : X) (xs : List X) → Contains (x ∷ xs) x
head_member x xs = (0, omega arith, refl)

pub tail_member : {X : Type 0} (y : X) (xs : List X) (x : X) → Contains xs x → Contains (y ∷ xs) x
tail_member y xs x is = (suc is.0, omega (arith, is.1), is.2)

at_cons : {X : Type 0} (y : X) (xs : List X) (x : X) (k : ℕ) → k < length (y ∷ xs) → slice_index_or (y ∷ xs) k x ≡ x → (y ≡ x) ⊎ Contains xs x
at_cons y xs x zero within at = inl at
at_cons y xs x (suc k) within at = inr (k, omega arith, at)

-- the head, or a member of the tail
pub which_member : {X : Type 0} (y : X) (xs : List X) (x : X) → Contains (y ∷ xs) x → (y ≡ x) ⊎ Contains xs x
which_member y xs x is = at_cons y xs x is.0 is.1 is.2

pub found_member : {X : Type 0} (xs : List X) (k : ℕ) (x y : X) → k < length xs → y ≡ get_or xs k y → x ≡ y → Contains xs x
found_member {X} xs k x y within at same = let P : X → Type 0 = Contains xs in subst P (sym same) (k, within, sym at)

in_map_at : {X Y : Type 0} (f : X → Y) (xs : List X) (x : X) (k : ℕ) → k < length xs → slice_index_or xs k x ≡ x → Contains (map f xs) (f x)
in_map_at f [] x k within at = absurd (omega arith)
in_map_at f (y ∷ xs) x zero within at = (0, omega arith, ap f at)
in_map_at f (y ∷ xs) x (suc k) within at = tail_member (f y) (map f xs) (f x) (in_map_at f xs x k (omega arith) at)

pub in_map : {X Y : Type 0} (f : X → Y) (xs : List X) (x : X) → Contains xs x → Contains (map f xs) (f x)
in_map f xs x is = in_map_at f xs x is.0 is.1 is.2

of_map_at : {X Y : Type 0} (f : X → Y) (xs : List X) (y : Y) (k : ℕ) → k < length (map f xs) → slice_index_or (map f xs) k y ≡ y
    → (x : X) × Contains xs x × (f x ≡ y)
of_map_at f [] y k within at = absurd (omega arith)
of_map_at f (x ∷ xs) y zero within at = (x, head_member x xs, at)
of_map_at f (x ∷ xs) y (suc k) within at = let rest = of_map_at f xs y k (omega arith) at in (rest.0, tail_member x xs rest.0 rest.1, rest.2)

pub of_map : {X Y : Type 0} (f : X → Y) (xs : List X) (y : Y) → Contains (map f xs) y → (x : X) × Contains xs x × (f x ≡ y)
of_map f xs y is = of_map_at f xs y is.0 is.1 is.2

abbrev pub Distinct : {X : Type 0} → List X → Type 0
Distinct xs = AllPairs (λ x y. x ≢ y) xs

pub head_apart : {X : Type 0} (x : X) (xs : List X) → Distinct (x ∷ xs) → Contains xs x → ⊥
head_apart x xs apart is = apart 0 (suc is.0) x (omega arith) (omega (arith, is.1)) (sym is.2)

pub tail_distinct : {X : Type 0} (x : X) (xs : List X) → Distinct (x ∷ xs) → Distinct xs
tail_distinct x xs apart i j d less within = apart (suc i) (suc j) d (omega arith) (omega arith)

cons_apart : {X : Type 0} (x : X) (xs : List X) → (Contains xs x → ⊥) → Distinct xs → (i j : ℕ) (d : X) → i < j → j < length (x ∷ xs)
    → slice_index_or (x ∷ xs) i d ≢ slice_index_or (x ∷ xs) j d
cons_apart x xs new apart i zero d less within = absurd (omega arith)
cons_apart x xs new apart zero (suc j) d less within = λ same. new (j, omega arith, index_same xs j d x (omega arith) ∙ sym same)
  where
    index_same : {X : Type 0} (xs : List X) (j : ℕ) (d e : X) → j < length xs → slice_index_or xs j e ≡ slice_index_or xs j d
    index_same [] j d e within = absurd (omega arith)
    index_same (y ∷ ys) zero d e within = refl
    index_same (y ∷ ys) (suc j) d e within = index_same ys j d e (omega arith)
cons_apart x xs new apart (suc i) (suc j) d less within = apart i j d (omega arith) (omega arith)

pub cons_distinct : {X : Type 0} (x : X) (xs : List X) → (Contains xs x → ⊥) → Distinct xs → Distinct (x ∷ xs)
cons_distinct x xs new apart = cons_apart x xs new apart

pub none_distinct : {X : Type 0} → Distinct {X = X} []
none_distinct i j d less within = absurd (omega arith)

-- a list with one more item at a place has that item and its own
pub put_there : {X : Type 0} (x : X) (xs : List X) (n : ℕ) (y : X) → n ≤ length xs → (x ≡ y) ⊎ Contains xs y → Contains (take n xs ++ x ∷ drop n xs) y
put_there x xs n y within (inl same) = Contains-append_right (take n xs) (x ∷ drop n xs) y (0, omega arith, same)
put_there x [] n y within (inr is) = absurd (no_member y is)
put_there x (z ∷ xs) zero y within (inr is) = tail_member x (z ∷ xs) y is
put_there x (z ∷ xs) (suc n) y within (inr is) =
    elim (which_member z xs y is) [
      | inl same ↦ (0, omega arith, same)
      | inr after ↦ tail_member z (take n xs ++ x ∷ drop n xs) y (put_there x xs n y (omega arith) (inr after))
    ]

pub put_from : {X : Type 0} (x : X) (xs : List X) (n : ℕ) (y : X) → n ≤ length xs → Contains (take n xs ++ x ∷ drop n xs) y → (x ≡ y) ⊎ Contains xs y
put_from x xs zero y within is = which_member x xs y is
put_from x [] (suc n) y within is = absurd (omega arith)
put_from x (z ∷ xs) (suc n) y within is =
    elim (which_member z (take n xs ++ x ∷ drop n xs) y is) [
      | inl same ↦ inr (0, omega arith, same)
      | inr after ↦ elim (put_from x xs n y (omega arith) after) [ inl same ↦ inl same | inr there ↦ inr (tail_member z xs y there) ]
    ]

-- and is of different items, where the item is new
pub put_distinct : {X : Type 0} (x : X) (xs : List X) (n : ℕ) → n ≤ length xs → Distinct xs → (Contains xs x → ⊥) → Distinct (take n xs ++ x ∷ drop n xs)
put_distinct x xs zero within apart new = cons_distinct x xs new apart
put_distinct x [] (suc n) within apart new = absurd (omega arith)
put_distinct x (z ∷ xs) (suc n) within apart new =
    cons_distinct z (take n xs ++ x ∷ drop n xs)
    (λ there. elim (put_from x xs n z (omega arith) there) [
      | inl same ↦ new (0, omega arith, sym same)
      | inr after ↦ head_apart z xs apart after
    ])
    (put_distinct x xs n (omega arith) (tail_distinct z xs apart) (λ there. new (tail_member z xs x there)))

pub in_flat_map : {X Y : Type 0} (f : X → List Y) (xs : List X) (x : X) (y : Y) → Contains xs x → Contains (f x) y → Contains (flat_map f xs) y
in_flat_map f [] x y is there = absurd (no_member x is)
in_flat_map {X} f (z ∷ xs) x y is there =
    elim (which_member z xs x is) [
      | inl same ↦ let P : X → Type 0 = λ w. Contains (f w) y in Contains-append_left (f z) (flat_map f xs) y (subst P (sym same) there)
      | inr after ↦ Contains-append_right (f z) (flat_map f xs) y (in_flat_map f xs x y after there)
    ]

pub of_flat_map : {X Y : Type 0} (f : X → List Y) (xs : List X) (y : Y) → Contains (flat_map f xs) y → (x : X) × Contains xs x × Contains (f x) y
of_flat_map f [] y is = absurd (no_member y is)
of_flat_map f (x ∷ xs) y is =
    elim (Contains-append_cases (f x) (flat_map f xs) y is) [
      | inl first ↦ (x, head_member x xs, first)
      | inr rest ↦ let from = of_flat_map f xs y rest in (from.0, tail_member x xs from.0 from.1, from.2)
    ]
