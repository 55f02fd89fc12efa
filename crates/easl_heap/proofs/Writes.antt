-- What a write and a fresh object change of a heap.
use Rattle.std.proofs.Common.{inl, inr, ◌≡◌, ℕ, zero, suc, ◌+◌, ◌<◌, ◌≤◌, List, [], ◌∷◌, ◌++◌, length, arith, refl, ap, sym, ◌∙◌}
use Rattle.std.specs.Prelude.{Option, Some, None, slice_get, slice_index, slice_set, ◌⊎◌}
use Rattle.std.specs.Option.{option_map, option_map_or}
use Rattle.std.proofs.lemmas.Option.{slice_get_within}
use Rattle.easl_model.proofs.Items.{item_at}
use Rattle.easl_heap.specs.{IsObjectOf, Object, get, object_at, with_field, write}

pub object_of : (heap : List Object) (class n : ℕ) → IsObjectOf heap class n → (o : Object) × (object_at heap n ≡ Some o) × (o.class ≡ class)
object_of heap class n is = found (object_at heap n) is
  where
    found : (x : Option Object) → option_map (λ o. o.class) x ≡ Some class → (o : Object) × (x ≡ Some o) × (o.class ≡ class)
    found None e = absurd (cc)
    found (Some o) e = (o, refl, (let same : o.class ≡ class = cc in same))

pub is_object : (heap : List Object) (n : ℕ) (o : Object) → object_at heap n ≡ Some o → IsObjectOf heap o.class n
is_object heap n o at = ap (option_map (λ x. x.class)) at

-- an object is of one class
pub one_class : (heap : List Object) (class other n : ℕ) → IsObjectOf heap class n → IsObjectOf heap other n → class ≡ other
one_class heap class other n is same = let e : Some class ≡ Some other = sym is ∙ same in cc

place_within : (heap : List Object) (n : ℕ) (o : Object) → object_at heap n ≡ Some o → n ≤ length heap
place_within heap zero o at = omega arith
place_within heap (suc n) o at = slice_get_within heap n o at

pub number_within : (heap : List Object) (class n : ℕ) → IsObjectOf heap class n → n ≤ length heap
number_within heap class n is = let o = object_of heap class n is in place_within heap n o.0 o.1

pub object_there : (heap : List Object) (n : ℕ) → 0 < n → n ≤ length heap → (o : Object) × (object_at heap n ≡ Some o)
object_there heap zero some within = absurd (omega arith)
object_there heap (suc n) some within = item_at heap n within

-- what stands before others
pub slice_before : {X : Type 0} (xs others : List X) (n : ℕ) (x : X) → slice_get xs n ≡ Some x → slice_get (xs ++ others) n ≡ Some x
slice_before [] others n x at = absurd cc
slice_before (y ∷ xs) others zero x at = at
slice_before (y ∷ xs) others (suc n) x at = slice_before xs others n x at

-- a fresh object stands behind the others
pub at_before : (heap : List Object) (o x : Object) (n : ℕ) → object_at heap n ≡ Some x → object_at (heap ++ o ∷ []) n ≡ Some x
at_before heap o x zero at = at
at_before heap o x (suc n) at = slice_before heap (o ∷ []) n x at

slice_last : (heap : List Object) (o : Object) → slice_get (heap ++ o ∷ []) (length heap) ≡ Some o
slice_last [] o = refl
slice_last (y ∷ heap) o = slice_last heap o

pub at_last : (heap : List Object) (o : Object) → object_at (heap ++ o ∷ []) (length heap + 1) ≡ Some o
at_last heap o = let e : length heap + 1 ≡ suc (length heap) = omega arith in rw e (slice_last heap o)

pub slice_cases : {X : Type 0} (xs : List X) (x y : X) (n : ℕ) → slice_get (xs ++ x ∷ []) n ≡ Some y → (slice_get xs n ≡ Some y) ⊎ ((n ≡ length xs) × (x ≡ y))
slice_cases [] x y zero at = inr (refl, (let e : x ≡ y = cc in e))
slice_cases [] x y (suc n) at = absurd (cc)
slice_cases (z ∷ xs) x y zero at = inl at
slice_cases (z ∷ xs) x y (suc n) at =
    elim (slice_cases xs x y n at) [
      | inl before ↦ inl before
      | inr last ↦ inr (ap suc last.0, last.1)
    ]

pub at_cases : (heap : List Object) (o x : Object) (n : ℕ) → object_at (heap ++ o ∷ []) n ≡ Some x → (object_at heap n ≡ Some x) ⊎ (o ≡ x)
at_cases heap o x zero at = inl at
at_cases heap o x (suc n) at =
    elim (slice_cases heap o x n at) [
      | inl before ↦ inl before
      | inr last ↦ inr last.1
    ]

pub same_get : (heap new : List Object) (n : ℕ) (o : Object) (p : ℕ) → object_at heap n ≡ Some o → object_at new n ≡ Some o → get new n p ≡ get heap n p
same_get heap new n o p old also = ap (λ x. option_map_or (λ (y : Object). slice_index y.fields p) x 0) (also ∙ sym old)

-- a write changes one field of one object
pub write_length : (heap : List Object) (owner p v : ℕ) → length (write heap owner p v) ≡ length heap
write_length heap zero p v = refl
write_length [] (suc owner) p v = refl
write_length (o ∷ heap) (suc zero) p v = refl
write_length (o ∷ heap) (suc (suc owner)) p v = ap suc (write_length heap (suc owner) p v)

pub write_cases : (heap : List Object) (owner p v n : ℕ) (o : Object) → object_at heap n ≡ Some o
    → (object_at (write heap owner p v) n ≡ Some o) ⊎ ((n ≡ owner) × (object_at (write heap owner p v) n ≡ Some (with_field p v o)))
write_cases heap zero p v n o at = inl at
write_cases [] (suc owner) p v n o at = inl at
write_cases (x ∷ heap) (suc zero) p v zero o at = inl at
write_cases (x ∷ heap) (suc zero) p v (suc zero) o at = inr (refl, (let e : x ≡ o = cc in ap (λ y. Some (with_field p v y)) e))
write_cases (x ∷ heap) (suc zero) p v (suc (suc n)) o at = inl at
write_cases (x ∷ heap) (suc (suc owner)) p v zero o at = inl at
write_cases (x ∷ heap) (suc (suc owner)) p v (suc zero) o at = inl at
write_cases (x ∷ heap) (suc (suc owner)) p v (suc (suc n)) o at =
    elim (write_cases heap (suc owner) p v (suc n) o at) [
      | inl same ↦ inl same
      | inr changed ↦ inr (ap suc changed.0, changed.1)
    ]

pub write_there : (heap : List Object) (owner p v : ℕ) (o : Object) → object_at heap owner ≡ Some o
    → object_at (write heap owner p v) owner ≡ Some (with_field p v o)
write_there heap zero p v o at = absurd (cc)
write_there [] (suc owner) p v o at = absurd (cc)
write_there (x ∷ heap) (suc zero) p v o at = let e : x ≡ o = cc in ap (λ y. Some (with_field p v y)) e
write_there (x ∷ heap) (suc (suc owner)) p v o at = write_there heap (suc owner) p v o at

-- nothing was there that is not there
pub write_back : (heap : List Object) (owner p v n : ℕ) (o : Object) → object_at (write heap owner p v) n ≡ Some o → (x : Object) × (object_at heap n ≡ Some x)
write_back heap zero p v n o at = (o, at)
write_back [] (suc owner) p v n o at = (o, at)
write_back (x ∷ heap) (suc zero) p v zero o at = absurd (cc)
write_back (x ∷ heap) (suc zero) p v (suc zero) o at = (x, refl)
write_back (x ∷ heap) (suc zero) p v (suc (suc n)) o at = (o, at)
write_back (x ∷ heap) (suc (suc owner)) p v zero o at = absurd (cc)
write_back (x ∷ heap) (suc (suc owner)) p v (suc zero) o at = (x, refl)
write_back (x ∷ heap) (suc (suc owner)) p v (suc (suc n)) o at = write_back heap (suc owner) p v (suc n) o at

pub index_set_cases : (xs : List ℕ) (p v q : ℕ) → (slice_index (slice_set xs p v) q ≡ slice_index xs q) ⊎ ((q ≡ p) × (slice_index (slice_set xs p v) q ≡ v))
index_set_cases [] p v q = inl refl
index_set_cases (x ∷ xs) zero v zero = inr (refl, refl)
index_set_cases (x ∷ xs) zero v (suc q) = inl refl
index_set_cases (x ∷ xs) (suc p) v zero = inl refl
index_set_cases (x ∷ xs) (suc p) v (suc q) =
    elim (index_set_cases xs p v q) [
      | inl same ↦ inl same
      | inr changed ↦ inr (ap suc changed.0, changed.1)
    ]

pub got : (heap : List Object) (n p : ℕ) (o : Object) → object_at heap n ≡ Some o → get heap n p ≡ slice_index o.fields p
got heap n p o at = ap (λ x. option_map_or (λ (y : Object). slice_index y.fields p) x 0) at

pub get_cases : (heap : List Object) (owner p v n q : ℕ) (o : Object) → object_at heap n ≡ Some o
    → (get (write heap owner p v) n q ≡ get heap n q) ⊎ ((n ≡ owner) × (q ≡ p) × (get (write heap owner p v) n q ≡ v))
get_cases heap owner p v n q o at =
    let new = write heap owner p v in
    elim (write_cases heap owner p v n o at) [
      | inl same ↦ inl (same_get heap new n o q at same)
      | inr changed ↦ elim (index_set_cases o.fields p v q) [
        | inl same ↦ inl (got new n q (with_field p v o) changed.1 ∙ same ∙ sym (got heap n q o at))
        | inr set ↦ inr (changed.0, set.0, got new n q (with_field p v o) changed.1 ∙ set.1)
      ]
    ]

set_within : (xs : List ℕ) (p v : ℕ) → p < length xs → slice_index (slice_set xs p v) p ≡ v
set_within [] p v within = absurd (omega arith)
set_within (x ∷ xs) zero v within = refl
set_within (x ∷ xs) (suc p) v within = set_within xs p v (omega arith)

pub get_written : (heap : List Object) (owner p v : ℕ) (o : Object) → object_at heap owner ≡ Some o → p < length o.fields
    → get (write heap owner p v) owner p ≡ v
get_written heap owner p v o at within =
    got (write heap owner p v) owner p (with_field p v o) (write_there heap owner p v o at) ∙ set_within o.fields p v within
