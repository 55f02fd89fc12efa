-- Full heaps are those whose objects are all whole.
use Rattle.std.proofs.Common.{inl, inr, ◌≡◌, ℕ, zero, suc, ◌<◌, List, [], ◌∷◌, length, fold, arith, refl, ap, sym, subst, ◌∙◌}
use Rattle.std.specs.Prelude.{Some, slice_get, slice_index}
use Rattle.std.specs.List.{AllZip}
use Rattle.std.proofs.lemmas.Bool.Decides.{leb_tells}
use Rattle.std.proofs.lemmas.Option.{get_or_from_slice_get}
use Rattle.std.proofs.lemmas.Slice.Zip.{AllZip-long}
use Rattle.easl_model.specs.{fields_of}
use Rattle.easl_model.specs.Form.{Form}
use Rattle.easl_model.proofs.Items.{all_at, all_from_places, zip_from}
use Rattle.easl_heap.specs.{FieldsLead, IsFull, IsFullObject, IsObjectOf, Object, get, object_at}
use Rattle.easl_heap.proofs.Whole.{AreShaped, IsWhole, Keeps, stays_whole, was_of, whole_field, whole_object}
use Rattle.easl_heap.proofs.Writes.{got, is_object, object_of}

full_at : (form : Form) (heap : List Object) (n : ℕ) (o : Object) → IsFull form heap → object_at heap n ≡ Some o → IsFullObject form heap o
full_at form heap zero o full at = absurd (cc)
full_at form heap (suc n) o full at = all_at (IsFullObject form heap) heap n o full at

pub full_shaped : (form : Form) (heap : List Object) → IsFull form heap → AreShaped form heap
full_shaped form heap full n o at =
    let f = full_at form heap n o full at in
    record { class = f.class; fields = AllZip-long (IsObjectOf heap) (fields_of form o.class) o.fields f.fields }

full_field : (form : Form) (heap : List Object) (class n p of : ℕ) → IsFull form heap → IsObjectOf heap class n
    → slice_get (fields_of form class) p ≡ Some of → IsObjectOf heap of (get heap n p)
full_field form heap class n p of full is at =
    let o = object_of heap class n is in
    let f = full_at form heap n o.0 full o.1 in
    let there : slice_get (fields_of form o.0.class) p ≡ Some of = ap (λ c. slice_get (fields_of form c) p) o.2 ∙ at in
    let v = zip_from (IsObjectOf heap) (fields_of form o.0.class) o.0.fields p of f.fields there in
    let e : get heap n p ≡ v.0 = got heap n p o.0 o.1 ∙ get_or_from_slice_get o.0.fields p v.0 0 v.1 in
    subst (IsObjectOf heap of) (sym e) v.2

full_leads : (form : Form) (heap : List Object) → IsFull form heap → (ps : List ℕ) (class n end : ℕ) → IsObjectOf heap class n
    → FieldsLead form class ps end → IsObjectOf heap end (fold (get heap) n ps)
full_leads form heap full [] class n end is leads = subst (λ c. IsObjectOf heap c n) leads is
full_leads form heap full (p ∷ ps) class n end is leads =
    full_leads form heap full ps leads.0 (get heap n p) end (full_field form heap class n p leads.0 full is leads.1) leads.2

pub full_whole : (form : Form) (heap : List Object) (class n : ℕ) → IsFull form heap → IsObjectOf heap class n → IsWhole form heap class n
full_whole form heap class n full is = record { leads = λ ps end leads. full_leads form heap full ps class n end is leads }

zip_of : (R : ℕ → ℕ → Type 0) (xs ys : List ℕ) → length ys ≡ length xs → ((p x : ℕ) → slice_get xs p ≡ Some x → R x (slice_index ys p)) → AllZip R xs ys
zip_of R [] [] long each = tt
zip_of R [] (y ∷ ys) long each = absurd (omega (arith, long))
zip_of R (x ∷ xs) [] long each = absurd (omega (arith, long))
zip_of R (x ∷ xs) (y ∷ ys) long each = (each 0 x refl, zip_of R xs ys (omega (arith, long)) (λ p z at. each (suc p) z at))

whole_full : (form : Form) (heap : List Object) → AreShaped form heap → ((class n : ℕ) → IsObjectOf heap class n → IsWhole form heap class n) → IsFull form heap
whole_full form heap shaped all =
    all_from_places (IsFullObject form heap) heap
    (λ k o at.
    let s = shaped (suc k) o at in
    record {
      class = s.class;
      fields = zip_of (IsObjectOf heap) (fields_of form o.class) o.fields s.fields
          (λ p of there.
          subst (IsObjectOf heap of) (got heap (suc k) p o at)
          (whole_object form heap of (get heap (suc k) p) (whole_field form heap o.class (suc k) p of (all o.class (suc k) (is_object heap (suc k) o at)) there)));
    })

object_some : (heap : List Object) (class n : ℕ) → IsObjectOf heap class n → 0 < n
object_some heap class zero is = absurd (cc)
object_some heap class (suc n) is = omega arith

-- what keeps whole objects keeps a full heap full
pub keeps_full : (form : Form) (heap new : List Object) → IsFull form heap → Keeps form heap new → IsFull form new
keeps_full form heap new full k =
    whole_full form new (k.stays.shaped (full_shaped form heap full))
    (λ class n is. elim (leb_tells n (length heap)) [
      | inl within ↦
          stays_whole form heap new class n k.stays
          (full_whole form heap class n full (was_of form heap new class n k.stays.kept (object_some new class n is) within.1 is))
      | inr more ↦ k.made class n more.1 is
    ])
