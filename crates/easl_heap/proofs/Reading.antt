-- What a field holds after a write and after an object was made.
use Rattle.std.proofs.Common.{inl, inr, ◌≡◌, ℕ, zero, suc, ◌<◌, ◌≤◌, Bool, true, false, ◌==◌, ◌&&◌, if◌then◌else◌, List, [], ◌∷◌, ◌++◌, length, replicate, Option, Some, None, slice_get, slice_index, arith, refl, ap, ap₂, sym, subst, ◌∙◌, true≢false, eqb-true, eq-eqb, length-set}
use Rattle.std.specs.Cmp.{first_so, second_so}
use Rattle.std.specs.Option.{option_map_or}
use Rattle.std.proofs.lemmas.List.{get_or_past, length-replicate, set_past}
use Rattle.std.proofs.lemmas.Option.{slice_get_past}
use Rattle.easl_model.specs.{fields_of}
use Rattle.easl_model.specs.Form.{Form}
use Rattle.easl_heap.specs.{IsFull, IsObjectOf, Object, fresh, get, object_at, with_field, write}
use Rattle.easl_heap.proofs.FullHeaps.{full_shaped}
use Rattle.easl_heap.proofs.Writes.{at_cases, get_cases, get_written, got, object_of, write_back, write_cases}

none_past : {X : Type 0} (xs : List X) (n : ℕ) → slice_get xs n ≡ None → length xs ≤ n
none_past [] n none = omega arith
none_past (x ∷ xs) zero none = absurd (cc)
none_past (x ∷ xs) (suc n) none = omega (arith, none_past xs n none)

object_beyond : (heap : List Object) (n : ℕ) → length heap < n → object_at heap n ≡ None
object_beyond heap zero more = refl
object_beyond heap (suc n) more = slice_get_past heap n (omega arith)

get_where : (heap : List Object) (n p : ℕ) (o : Option Object) → object_at heap n ≡ o → get heap n p ≡ option_map_or (λ (y : Object). slice_index y.fields p) o 0
get_where heap n p o at = ap (λ x. option_map_or (λ (y : Object). slice_index y.fields p) x 0) at

-- a number past all objects has no fields
pub get_beyond : (heap : List Object) (n p : ℕ) → length heap < n → get heap n p ≡ 0
get_beyond heap n p more = get_where heap n p None (object_beyond heap n more)

-- each object has as many fields as its class
abbrev pub AreWide : Form → List Object → Type 0
AreWide form heap = (n : ℕ) (o : Object) → object_at heap n ≡ Some o → length o.fields ≡ length (fields_of form o.class)

pub full_wide : (form : Form) (heap : List Object) → IsFull form heap → AreWide form heap
full_wide form heap full n o at = (full_shaped form heap full n o at).fields

no_field : (form : Form) (heap : List Object) (class n p : ℕ) → AreWide form heap → (is : IsObjectOf heap class n)
    → slice_get (fields_of form class) p ≡ None → length (object_of heap class n is).0.fields ≤ p
no_field form heap class n p wide is none =
    let o = object_of heap class n is in
    omega (arith, wide n o.0 o.1, ap (λ c. length (fields_of form c)) o.2, none_past (fields_of form class) p none)

-- a position that the class does not have
pub get_no_field : (form : Form) (heap : List Object) (class n p : ℕ) → AreWide form heap → IsObjectOf heap class n
    → slice_get (fields_of form class) p ≡ None → get heap n p ≡ 0
get_no_field form heap class n p wide is none =
    let o = object_of heap class n is in
    got heap n p o.0 o.1 ∙ get_or_past o.0.fields p 0 (no_field form heap class n p wide is none)

same_object : (o : Object) (p v : ℕ) → length o.fields ≤ p → with_field p v o ≡ o
same_object o p v more = ap (λ fs. let x : Object = record { class = o.class; fields = fs } in x) (set_past o.fields p v more)

write_past_field : (heap : List Object) (n p v : ℕ) (o : Object) → object_at heap n ≡ Some o → length o.fields ≤ p → write heap n p v ≡ heap
write_past_field heap zero p v o at more = refl
write_past_field [] (suc n) p v o at more = refl
write_past_field (x ∷ heap) (suc zero) p v o at more =
    let e : x ≡ o = cc in
    ap (λ y. y ∷ heap) (same_object x p v (omega (arith, ap (λ (y : Object). length y.fields) e)))
write_past_field (x ∷ heap) (suc (suc n)) p v o at more = ap (λ rest. x ∷ rest) (write_past_field heap (suc n) p v o at more)

-- a write to a position that the class does not have changes nothing
pub write_no_field : (form : Form) (heap : List Object) (class n p v : ℕ) → AreWide form heap → IsObjectOf heap class n
    → slice_get (fields_of form class) p ≡ None → write heap n p v ≡ heap
write_no_field form heap class n p v wide is none =
    let o = object_of heap class n is in
    write_past_field heap n p v o.0 o.1 (no_field form heap class n p wide is none)

-- two pairs of numbers are one
pub both_same : (a b c d : ℕ) → (a == b && c == d) ≡ true → (a ≡ b) × (c ≡ d)
both_same a b c d e = (eqb-true a b (first_so (a == b) (c == d) e), eqb-true c d (second_so (a == b) (c == d) e))

pub same_both : (a b c d : ℕ) → a ≡ b → c ≡ d → (a == b && c == d) ≡ true
same_both a b c d e f = ap₂ (λ s t. s && t) (eq-eqb a b e) (eq-eqb c d f)

module _ (heap : List Object) (owner p v n q : ℕ) where
  none_after : (o : Option Object) → object_at (write heap owner p v) n ≡ o → object_at heap n ≡ None → get (write heap owner p v) n q ≡ 0
  none_after None at none = get_where (write heap owner p v) n q None at
  none_after (Some x) at none = let was = write_back heap owner p v n x at in absurd (cc)

  get_other : (o : Option Object) → object_at heap n ≡ o → ((owner ≡ n) → (p ≡ q) → ⊥) → get (write heap owner p v) n q ≡ get heap n q
  get_other None at other = none_after (object_at (write heap owner p v) n) refl at ∙ sym (get_where heap n q None at)
  get_other (Some x) at other =
      elim (get_cases heap owner p v n q x at) [
        | inl same ↦ same
        | inr set ↦ absurd (other (sym set.0) (sym set.1))
      ]

  get_by : (x : Object) → object_at heap owner ≡ Some x → p < length x.fields → (b : Bool) → (owner == n && p == q) ≡ b
      → get (write heap owner p v) n q ≡ (if b then v else get heap n q)
  get_by x at within true e =
      let s = both_same owner n p q e in
      subst (λ m. get (write heap owner p v) m q ≡ v) s.0
      (subst (λ r. get (write heap owner p v) owner r ≡ v) s.1 (get_written heap owner p v x at within))
  get_by x at within false e =
      get_other (object_at heap n) refl (λ one same. true≢false (sym (same_both owner n p q one same) ∙ e))

  -- a write changes one field of one object
  pub get_write : (x : Object) → object_at heap owner ≡ Some x → p < length x.fields
      → get (write heap owner p v) n q ≡ (if owner == n && p == q then v else get heap n q)
  get_write x at within = get_by x at within (owner == n && p == q) refl

zeros : (k q : ℕ) → slice_index (replicate k 0) q ≡ 0
zeros zero q = refl
zeros (suc k) zero = refl
zeros (suc k) (suc q) = zeros k q

index_adding : (heap : List Object) (o : Object) (n q : ℕ) → slice_index o.fields q ≡ 0
    → option_map_or (λ (y : Object). slice_index y.fields q) (slice_get (heap ++ o ∷ []) n) 0 ≡ option_map_or (λ (y : Object). slice_index y.fields q) (slice_get heap n) 0
index_adding [] o zero q none = none
index_adding [] o (suc n) q none = refl
index_adding (x ∷ heap) o zero q none = refl
index_adding (x ∷ heap) o (suc n) q none = index_adding heap o n q none

-- a fresh object has no field assigned, and others keep theirs
pub get_adding : (form : Form) (class : ℕ) (heap : List Object) (n q : ℕ) → get (heap ++ fresh form class ∷ []) n q ≡ get heap n q
get_adding form class heap zero q = refl
get_adding form class heap (suc n) q = index_adding heap (fresh form class) n q (zeros (length (fields_of form class)) q)

fresh_wide : (form : Form) (class : ℕ) → length (fresh form class).fields ≡ length (fields_of form class)
fresh_wide form class = length-replicate (length (fields_of form class)) 0

pub adding_wide : (form : Form) (class : ℕ) (heap : List Object) → AreWide form heap → AreWide form (heap ++ fresh form class ∷ [])
adding_wide form class heap wide n o at =
    elim (at_cases heap (fresh form class) o n at) [
      | inl was ↦ wide n o was
      | inr e ↦ subst (λ (x : Object). length x.fields ≡ length (fields_of form x.class)) e (fresh_wide form class)
    ]

pub writing_wide : (form : Form) (heap : List Object) (owner p v : ℕ) → AreWide form heap → AreWide form (write heap owner p v)
writing_wide form heap owner p v wide n o at =
    let x = write_back heap owner p v n o at in
    elim (write_cases heap owner p v n x.0 x.1) [
      | inl same ↦
          let one : Some x.0 ≡ Some o = sym same ∙ at in
          let e : x.0 ≡ o = cc in
          subst (λ (y : Object). length y.fields ≡ length (fields_of form y.class)) e (wide n x.0 x.1)
      | inr changed ↦
          let one : Some (with_field p v x.0) ≡ Some o = sym changed.1 ∙ at in
          let e : with_field p v x.0 ≡ o = cc in
          subst (λ (y : Object). length y.fields ≡ length (fields_of form y.class)) e (length-set x.0.fields p v ∙ wide n x.0 x.1)
    ]
