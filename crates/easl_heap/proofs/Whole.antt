-- Objects whose fields lead to objects of the right classes.
use Rattle.std.proofs.Common.{inl, inr, ◌≡◌, ℕ, ◌+◌, ◌<◌, ◌≤◌, List, [], ◌∷◌, ◌++◌, length, fold, arith, refl, ap, sym, subst, ◌∙◌, length-append, length-set}
use Rattle.std.specs.Prelude.{Some, slice_get}
use Rattle.std.proofs.lemmas.Bool.Decides.{leb_tells}
use Rattle.std.proofs.lemmas.List.{length-replicate}
use Rattle.std.proofs.lemmas.Option.{slice_get_within}
use Rattle.easl_model.specs.{fields_of}
use Rattle.easl_model.specs.Form.{Form}
use Rattle.easl_heap.specs.{FieldsLead, IsObjectOf, KeepsClasses, Object, fresh, get, object_at, with_field, write}
use Rattle.easl_heap.proofs.Writes.{at_before, at_cases, get_cases, get_written, is_object, number_within, object_of, object_there, one_class, same_get, write_back, write_cases, write_length}

-- an object of the class, and whatever its fields lead to is of the right class
pub record IsWhole (form : Form) (heap : List Object) (class n : ℕ) : Type 0 where
  pub leads : (ps : List ℕ) (end : ℕ) → FieldsLead form class ps end → IsObjectOf heap end (fold (get heap) n ps)

pub whole_object : (form : Form) (heap : List Object) (class n : ℕ) → IsWhole form heap class n → IsObjectOf heap class n
whole_object form heap class n w = w.leads [] class refl

pub whole_field : (form : Form) (heap : List Object) (class n p of : ℕ) → IsWhole form heap class n → slice_get (fields_of form class) p ≡ Some of
    → IsWhole form heap of (get heap n p)
whole_field form heap class n p of w at = record { leads = λ ps end leads. w.leads (p ∷ ps) end (of, at, leads) }

-- an object is whole where each of its fields holds a whole one
abbrev pub HaveWhole : Form → List Object → ℕ → ℕ → Type 0
HaveWhole form heap class n = (p of : ℕ) → slice_get (fields_of form class) p ≡ Some of → IsWhole form heap of (get heap n p)

fields_lead : (form : Form) (heap : List Object) (class n : ℕ) → IsObjectOf heap class n → HaveWhole form heap class n → (ps : List ℕ) (end : ℕ)
    → FieldsLead form class ps end → IsObjectOf heap end (fold (get heap) n ps)
fields_lead form heap class n is have [] end leads = subst (λ c. IsObjectOf heap c n) leads is
fields_lead form heap class n is have (p ∷ ps) end leads = (have p leads.0 leads.1).leads ps end leads.2

pub whole : (form : Form) (heap : List Object) (class n : ℕ) → IsObjectOf heap class n → HaveWhole form heap class n → IsWhole form heap class n
whole form heap class n is have = record { leads = fields_lead form heap class n is have }

-- each object has as many fields as its class
pub record IsShaped (form : Form) (o : Object) : Type 0 where
  pub class : o.class < length form.classes
  pub fields : length o.fields ≡ length (fields_of form o.class)

abbrev pub AreShaped : Form → List Object → Type 0
AreShaped form heap = (n : ℕ) (o : Object) → object_at heap n ≡ Some o → IsShaped form o

-- what holds whole objects holds whole ones, object by object and field by field
pub record Stays (form : Form) (heap new : List Object) : Type 0 where
  pub kept : KeepsClasses heap new
  pub fields : (class n p of : ℕ) → IsObjectOf heap class n → slice_get (fields_of form class) p ≡ Some of → IsWhole form heap of (get heap n p)
      → IsWhole form new of (get new n p)
  pub shaped : AreShaped form heap → AreShaped form new

-- and each new object is whole
pub record Keeps (form : Form) (heap new : List Object) : Type 0 where
  pub stays : Stays form heap new
  pub longer : length heap ≤ length new
  pub made : (class n : ℕ) → length heap < n → IsObjectOf new class n → IsWhole form new class n

pub stays_whole : (form : Form) (heap new : List Object) (class n : ℕ) → Stays form heap new → IsWhole form heap class n → IsWhole form new class n
stays_whole form heap new class n s w =
    let is = whole_object form heap class n w in
    whole form new class n (s.kept class n is)
    (λ p of at. s.fields class n p of is at (whole_field form heap class n p of w at))

pub stays_both : (form : Form) (heap next last : List Object) → Stays form heap next → Stays form next last → Stays form heap last
stays_both form heap next last s t = record {
  kept = λ class n is. t.kept class n (s.kept class n is);
  fields = λ class n p of is at w. t.fields class n p of (s.kept class n is) at (s.fields class n p of is at w);
  shaped = λ shaped. t.shaped (s.shaped shaped);
}

pub keeps_same : (form : Form) (heap : List Object) → Keeps form heap heap
keeps_same form heap = record {
  stays = record { kept = λ class n is. is; fields = λ class n p of is at w. w; shaped = λ shaped. shaped };
  longer = omega arith;
  made = λ class n more is. absurd (omega (arith, number_within heap class n is));
}

-- an object of the new heap that was there is of the class that it was of
pub was_of : (form : Form) (heap new : List Object) (class n : ℕ) → KeepsClasses heap new → 0 < n → n ≤ length heap → IsObjectOf new class n
    → IsObjectOf heap class n
was_of form heap new class n kept some within is =
    let o = object_there heap n some within in
    let was = is_object heap n o.0 o.1 in
    subst (λ c. IsObjectOf heap c n) (one_class new o.0.class class n (kept o.0.class n was) is) was

pub keeps_both : (form : Form) (heap next last : List Object) → Keeps form heap next → Keeps form next last → Keeps form heap last
keeps_both form heap next last s t = record {
  stays = stays_both form heap next last s.stays t.stays;
  longer = omega (arith, s.longer, t.longer);
  made = λ class n more is. elim (leb_tells n (length next)) [
    | inl within ↦ stays_whole form next last class n t.stays (s.made class n more (was_of form next last class n t.stays.kept (omega arith) within.1 is))
    | inr new ↦ t.made class n new.1 is
  ];
}

-- where each field holds, in the new heap, what was whole in the old one, whole objects stay whole
abbrev HoldWhole : Form → List Object → List Object → Type 0
HoldWhole form heap new = (class n p of : ℕ) → IsObjectOf heap class n → slice_get (fields_of form class) p ≡ Some of → IsWhole form heap of (get heap n p) → IsWhole form heap of (get new n p)

still_lead : (form : Form) (heap new : List Object) → KeepsClasses heap new → HoldWhole form heap new → (ps : List ℕ) (class n end : ℕ)
    → IsWhole form heap class n → FieldsLead form class ps end → IsObjectOf new end (fold (get new) n ps)
still_lead form heap new kept hold [] class n end w leads = subst (λ c. IsObjectOf new c n) leads (kept class n (whole_object form heap class n w))
still_lead form heap new kept hold (p ∷ ps) class n end w leads =
    still_lead form heap new kept hold ps leads.0 (get new n p) end
    (hold class n p leads.0 (whole_object form heap class n w) leads.1 (whole_field form heap class n p leads.0 w leads.1)) leads.2

stay : (form : Form) (heap new : List Object) → KeepsClasses heap new → HoldWhole form heap new → (AreShaped form heap → AreShaped form new)
    → Stays form heap new
stay form heap new kept hold shaped = record {
  kept = kept;
  fields = λ class n p of is at w. record { leads = λ ps end leads. still_lead form heap new kept hold ps of (get new n p) end (hold class n p of is at w) leads };
  shaped = shaped;
}

-- a fresh object
pub adding_keeps : (heap : List Object) (o : Object) → KeepsClasses heap (heap ++ o ∷ [])
adding_keeps heap o class n is =
    let x = object_of heap class n is in
    subst (λ c. IsObjectOf (heap ++ o ∷ []) c n) x.2 (is_object (heap ++ o ∷ []) n x.0 (at_before heap o x.0 n x.1))

fresh_shaped : (form : Form) (class : ℕ) → class < length form.classes → IsShaped form (fresh form class)
fresh_shaped form class there = record { class = there; fields = length-replicate (length (fields_of form class)) 0 }

pub adding_stays : (form : Form) (heap : List Object) (class : ℕ) → class < length form.classes → Stays form heap (heap ++ fresh form class ∷ [])
adding_stays form heap class there =
    let o = fresh form class in
    let new = heap ++ o ∷ [] in
    stay form heap new (adding_keeps heap o)
    (λ of n p end is at w.
    let x = object_of heap of n is in
    subst (IsWhole form heap end) (sym (same_get heap new n x.0 p x.1 (at_before heap o x.0 n x.1))) w)
    (λ shaped n x at. elim (at_cases heap o x n at) [
      | inl was ↦ shaped n x was
      | inr e ↦ subst (IsShaped form) e (fresh_shaped form class there)
    ])

pub number_fresh : (heap : List Object) (o : Object) → length (heap ++ o ∷ []) ≡ length heap + 1
number_fresh heap o = omega (arith, length-append heap (o ∷ []))

-- a construction keeps what its constructor keeps, where at the end the fresh object is whole
pub constructed_keeps : (form : Form) (heap last : List Object) (class : ℕ) → class < length form.classes
    → Keeps form (heap ++ fresh form class ∷ []) last → IsWhole form last class (length heap + 1) → Keeps form heap last
constructed_keeps form heap last class there k w =
    let o = fresh form class in
    let next = heap ++ o ∷ [] in
    record {
      stays = stays_both form heap next last (adding_stays form heap class there) k.stays;
      longer = omega (arith, number_fresh heap o, k.longer);
      made = λ of n more is. elim (leb_tells n (length heap + 1)) [
        | inl within ↦
            let e : length heap + 1 ≡ n = omega (arith, within.1) in
            let w' : IsWhole form last class n = subst (IsWhole form last class) e w in
            subst (λ c. IsWhole form last c n) (one_class last class of n (whole_object form last class n w') is) w'
        | inr new ↦ k.made of n (omega (arith, new.1, number_fresh heap o)) is
      ];
    }

-- a write
pub writing_keeps : (heap : List Object) (owner p v : ℕ) → KeepsClasses heap (write heap owner p v)
writing_keeps heap owner p v class n is =
    let x = object_of heap class n is in
    let new = write heap owner p v in
    elim (write_cases heap owner p v n x.0 x.1) [
      | inl same ↦ subst (λ c. IsObjectOf new c n) x.2 (is_object new n x.0 same)
      | inr changed ↦ subst (λ c. IsObjectOf new c n) x.2 (is_object new n (with_field p v x.0) changed.1)
    ]

write_shaped : (form : Form) (heap : List Object) (owner p v : ℕ) → AreShaped form heap → AreShaped form (write heap owner p v)
write_shaped form heap owner p v shaped n o at =
    let x = write_back heap owner p v n o at in
    let s = shaped n x.0 x.1 in
    elim (write_cases heap owner p v n x.0 x.1) [
      | inl same ↦
          let one : Some x.0 ≡ Some o = sym same ∙ at in
          let e : x.0 ≡ o = cc in
          subst (IsShaped form) e s
      | inr changed ↦
          let one : Some (with_field p v x.0) ≡ Some o = sym changed.1 ∙ at in
          let e : with_field p v x.0 ≡ o = cc in
          subst (IsShaped form) e (record { class = s.class; fields = length-set x.0.fields p v ∙ s.fields })
    ]

-- a write of a whole object into a field of its class
pub writing : (form : Form) (heap : List Object) (owner p v class of : ℕ) → IsObjectOf heap class owner → slice_get (fields_of form class) p ≡ Some of
    → IsWhole form heap of v → Keeps form heap (write heap owner p v)
writing form heap owner p v class of is at w =
    let new = write heap owner p v in
    record {
      stays = stay form heap new (writing_keeps heap owner p v)
          (λ other n q end has at_q w_q.
          let x = object_of heap other n has in
          elim (get_cases heap owner p v n q x.0 x.1) [
            | inl same ↦ subst (IsWhole form heap end) (sym same) w_q
            | inr set ↦ set_whole other n q end has at_q (set.0) (set.1) (set.2)
          ])
          (write_shaped form heap owner p v);
      longer = omega (arith, write_length heap owner p v);
      made = λ other n more has. absurd (omega (arith, number_within new other n has, write_length heap owner p v));
    }
  where
    set_whole : (other n q end : ℕ) → IsObjectOf heap other n → slice_get (fields_of form other) q ≡ Some end → n ≡ owner → q ≡ p
        → get (write heap owner p v) n q ≡ v → IsWhole form heap end (get (write heap owner p v) n q)
    set_whole other n q end has at_q owned placed set =
        let one : other ≡ class = one_class heap other class owner (subst (IsObjectOf heap other) owned has) is in
        let found : Some end ≡ Some of = sym at_q ∙ ap (λ c. slice_get (fields_of form c) q) one ∙ ap (slice_get (fields_of form class)) placed ∙ at in
        let e : of ≡ end = cc in
        subst (IsWhole form heap end) (sym set) (subst (λ c. IsWhole form heap c v) e w)

-- what is written is there
pub written : (form : Form) (heap : List Object) (owner p v class of : ℕ) → AreShaped form heap → IsObjectOf heap class owner
    → slice_get (fields_of form class) p ≡ Some of → get (write heap owner p v) owner p ≡ v
written form heap owner p v class of shaped is at =
    let x = object_of heap class owner is in
    let s = shaped owner x.0 x.1 in
    let few : p < length (fields_of form class) = slice_get_within (fields_of form class) p of at in
    get_written heap owner p v x.0 x.1 (omega (arith, s.fields, ap (λ c. length (fields_of form c)) x.2))
