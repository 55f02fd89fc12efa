-- Reading through the writes gives what the fields hold now.
use Rattle.std.proofs.Common.{inl, inr, ◌≡◌, ℕ, zero, suc, ◌+◌, ◌<◌, Bool, true, false, ◌==◌, ◌&&◌, if◌then◌else◌, List, [], ◌∷◌, ◌++◌, length, fold, Option, Some, None, slice_get, slice_index, arith, refl, ap, sym, subst, ◌∙◌, true≢false, eq-eqb, eqb-true, ne_eqb}
use Rattle.easl_model.specs.{fields_of}
use Rattle.easl_model.specs.Form.{Form}
use Rattle.easl_heap.specs.{FieldsLead, IsObjectOf, Object, get}
use Rattle.easl_heap.proofs.FullHeaps.{full_whole}
use Rattle.easl_heap.proofs.Writes.{number_within, one_class}
use Rattle.access_paths.specs.{IsTermOf, field, object_of}
use Rattle.access_paths.specs.declared.term.Term.{Term}
use Rattle.question_model.specs.{Done, Long, are_same, extended, field_of, is_found, is_write_of, led, may_grow, through, unwritten}
use Rattle.question_model.proofs.Asking.{Agree, ask_so, bound}
use Rattle.easl_heap.proofs.Reading.{both_same, full_wide, get_beyond, get_no_field, same_both}
use Rattle.question_model.proofs.Meaning.{AllGoodWrites, IsGood, IsGoodWrite, Matches, Start, after, denote}
use Rattle.question_model.specs.declared.answer.Answer.{Answer}
use Rattle.question_model.specs.declared.value.Value.TheVariants.{Before, Fresh, Nothing}
use Rattle.question_model.specs.declared.value.Value.{Value}
use Rattle.question_model.specs.declared.value.Write.{Write}

fold_last : {A B : Type 0} (f : B → A → B) (b : B) (xs : List A) (x : A) → fold f b (xs ++ x ∷ []) ≡ f (fold f b xs) x
fold_last f b [] x = refl
fold_last f b (y ∷ xs) x = fold_last f (f b y) xs x

pub lead_on : (form : Form) (class : ℕ) (ps : List ℕ) (p middle end : ℕ) → FieldsLead form class ps middle → slice_get (fields_of form middle) p ≡ Some end
    → FieldsLead form class (ps ++ p ∷ []) end
lead_on form class [] p middle end leads at = (end, ap (λ c. slice_get (fields_of form c) p) leads ∙ at, refl)
lead_on form class (q ∷ ps) p middle end leads at = (leads.0, leads.1, lead_on form leads.0 ps p middle end leads.2 at)

shifted : (k m n : ℕ) → (m == n) ≡ ((k + suc m) == (k + suc n))
shifted k m n = by (m == n) refl
  where
    by : (b : Bool) → (m == n) ≡ b → b ≡ ((k + suc m) == (k + suc n))
    by true e = let one = eqb-true m n e in sym (eq-eqb (k + suc m) (k + suc n) (omega (arith, one)))
    by false e = sym (ne_eqb (k + suc m) (k + suc n) (λ same. absurd (let one = eq-eqb m n (omega (arith, same)) in cc)))

and_true : (a b : Bool) → true ≡ b → a ≡ (a && b)
and_true true b e = e
and_true false b e = refl

some_object : (heap : List Object) (class n : ℕ) → IsObjectOf heap class n → 0 < n
some_object heap class zero is = absurd (cc)
some_object heap class (suc n) is = omega arith

module _ (form : Form) (variables : List (Option ℕ)) (before : List Object) (objects : List ℕ) (start : Start form variables before objects) where
  -- a term leads to an object of its class
  pub term_object : (t : Term) (class : ℕ) → IsTermOf form variables t class → IsObjectOf before class (object_of before objects t)
  term_object t class is =
      (full_whole form before is.start (slice_index objects t.var.0) start.full (start.given t.var.0 is.start is.variable)).leads t.fields class is.leads

  module _ (most : Option ℕ) (answers : List Answer) (agree : Agree before objects answers) where
    term_apart : (t : Term) (class n : ℕ) → IsTermOf form variables t class → object_of before objects t ≡ length before + suc n → ⊥
    term_apart t class n is e = omega (arith, number_within before class (object_of before objects t) (term_object t class is), e)

    term_some : (t : Term) (class : ℕ) → IsTermOf form variables t class → object_of before objects t ≡ 0 → ⊥
    term_some t class is e = omega (arith, some_object before class (object_of before objects t) (term_object t class is), e)

    -- values are compared as their objects are
    pub are_same_so : (now : List Object) (v w : Value) (b : Bool) → IsGood form variables before objects now v → IsGood form variables before objects now w
        → are_same answers v w ≡ Done b → b ≡ (denote before objects v == denote before objects w)
    are_same_so now (Before c t) (Before d u) b good other is = ask_so before objects answers agree t u b is
    are_same_so now (Before c t) (Fresh d n) b good other is =
        let no : false ≡ b = cc in
        sym no ∙ sym (ne_eqb (object_of before objects t) (length before + suc n) (term_apart t c n good))
    are_same_so now (Before c t) Nothing b good other is =
        let no : false ≡ b = cc in
        sym no ∙ sym (ne_eqb (object_of before objects t) 0 (term_some t c good))
    are_same_so now (Fresh c m) (Before d u) b good other is =
        let no : false ≡ b = cc in
        sym no ∙ sym (ne_eqb (length before + suc m) (object_of before objects u) (λ e. term_apart u d m other (sym e)))
    are_same_so now (Fresh c m) (Fresh d n) b good other is =
        let so : (m == n) ≡ b = cc in
        sym so ∙ shifted (length before) m n
    are_same_so now (Fresh c m) Nothing b good other is =
        let no : false ≡ b = cc in
        sym no ∙ sym (ne_eqb (length before + suc m) 0 (λ e. omega (arith, e)))
    are_same_so now Nothing (Before d u) b good other is =
        let no : false ≡ b = cc in
        sym no ∙ sym (ne_eqb 0 (object_of before objects u) (λ e. term_some u d other (sym e)))
    are_same_so now Nothing (Fresh d n) b good other is =
        let no : false ≡ b = cc in
        sym no ∙ sym (ne_eqb 0 (length before + suc n) (λ e. omega (arith, e)))
    are_same_so now Nothing Nothing b good other is =
        let yes : true ≡ b = cc in
        sym yes ∙ sym (eq-eqb 0 0 refl)

    -- x is what the object n holds at the position after these writes
    abbrev Holds : List Object → List Write → ℕ → ℕ → Value → Type 0
    Holds now ws n p x = IsGood form variables before objects now x × (denote before objects x ≡ after before objects ws n p)

    extended_so : (now : List Object) (t : Term) (class p : ℕ) → IsTermOf form variables t class → (o : Option ℕ) → slice_get (fields_of form class) p ≡ o
        → (x : Value) → extended most t p o ≡ Done x → Holds now [] (object_of before objects t) p x
    extended_so now t class p is None at x e =
        let none : Nothing ≡ x = cc in
        subst (Holds now [] (object_of before objects t) p) none
        (tt, sym (get_no_field form before class (object_of before objects t) p (full_wide form before start.full) (term_object t class is) at))
    extended_so now t class p is (Some of) at x e = short (may_grow most (length t.fields)) e
      where
        short : (b : Bool) → (if b then Done (Before of (field t p)) else Long) ≡ Done x → Holds now [] (object_of before objects t) p x
        short true e =
            let one : Before of (field t p) ≡ x = cc in
            subst (Holds now [] (object_of before objects t) p) one (
              record { start = is.start; variable = is.variable; leads = lead_on form is.start t.fields p class of is.leads at },
              fold_last (get before) (slice_index objects t.var.0) t.fields p,
            )
        short false e = absurd (cc)

    unwritten_so : (now : List Object) (v : Value) (p : ℕ) (x : Value) → IsGood form variables before objects now v → unwritten form most v p ≡ Done x
        → Holds now [] (denote before objects v) p x
    unwritten_so now (Before class t) p x good e = extended_so now t class p good (slice_get (fields_of form class) p) refl x e
    unwritten_so now (Fresh class n) p x good e =
        let none : Nothing ≡ x = cc in
        subst (Holds now [] (length before + suc n) p) none (tt, sym (get_beyond before (length before + suc n) p (omega arith)))
    unwritten_so now Nothing p x good e =
        let none : Nothing ≡ x = cc in
        subst (Holds now [] 0 p) none (tt, refl)

    -- a write that is passed over changes nothing here
    passed : (now : List Object) (w : Write) (ws : List Write) (n p : ℕ) (x : Value) → (denote before objects w.owner == n && w.position == p) ≡ false
        → Holds now ws n p x → Holds now (w ∷ ws) n p x
    passed now w ws n p x e holds = (holds.0, rw e holds.1)

    taken : (now : List Object) (w : Write) (ws : List Write) (n p : ℕ) → (denote before objects w.owner == n && w.position == p) ≡ true
        → IsGood form variables before objects now w.value → Holds now (w ∷ ws) n p w.value
    taken now w ws n p e good = (good, rw e refl)

    -- a write to a field of another class is to another object
    apart : (now : List Object) (class : ℕ) (v : Value) (w : Write) (p : ℕ) → IsObjectOf now class (denote before objects v)
        → IsGoodWrite form variables before objects now w → is_write_of class p w ≡ false → (b : Bool)
        → (denote before objects w.owner == denote before objects v && w.position == p) ≡ b → b ≡ false
    apart now class v w p is good other false e = refl
    apart now class v w p is good other true e =
        let s = both_same (denote before objects w.owner) (denote before objects v) w.position p e in
        let same_class : w.class ≡ class = one_class now w.class class (denote before objects v) (subst (IsObjectOf now w.class) s.0 good.of) is in
        absurd (true≢false (sym (same_both w.class class w.position p same_class s.1) ∙ other))

    -- whether the write is of this field of this object
    found_so : (now : List Object) (class : ℕ) (v : Value) (w : Write) (p : ℕ) → IsGood form variables before objects now v
        → IsObjectOf now class (denote before objects v) → IsGoodWrite form variables before objects now w → (b : Bool) → is_write_of class p w ≡ b
        → (s : Bool) → (if b then are_same answers w.owner v else Done false) ≡ Done s
        → s ≡ (denote before objects w.owner == denote before objects v && w.position == p)
    found_so now class v w p good is write true e s done =
        let at : true ≡ (w.position == p) = sym (eq-eqb w.position p (both_same w.class class w.position p e).1) in
        are_same_so now w.owner v s write.owner good done ∙ and_true (denote before objects w.owner == denote before objects v) (w.position == p) at
    found_so now class v w p good is write false e s done =
        let no : false ≡ s = cc in
        sym no ∙ sym (apart now class v w p is write e (denote before objects w.owner == denote before objects v && w.position == p) refl)

    looked : (now : List Object) (class : ℕ) (v : Value) (w : Write) (ws : List Write) (p : ℕ) (x : Value)
        → IsGood form variables before objects now w.value → (s : Bool) → s ≡ (denote before objects w.owner == denote before objects v && w.position == p)
        → (through form most answers class v p ws ≡ Done x → Holds now ws (denote before objects v) p x)
        → (if s then Done w.value else through form most answers class v p ws) ≡ Done x → Holds now (w ∷ ws) (denote before objects v) p x
    looked now class v w ws p x good true so older is =
        let one : w.value ≡ x = cc in
        subst (Holds now (w ∷ ws) (denote before objects v) p) one (taken now w ws (denote before objects v) p (sym so) good)
    looked now class v w ws p x good false so older is = passed now w ws (denote before objects v) p x (sym so) (older is)

    through_so : (now : List Object) (class : ℕ) (v : Value) (p : ℕ) → IsGood form variables before objects now v
        → IsObjectOf now class (denote before objects v) → (ws : List Write) → AllGoodWrites form variables before objects now ws → (x : Value)
        → through form most answers class v p ws ≡ Done x → Holds now ws (denote before objects v) p x
    through_so now class v p good is [] writes x done = unwritten_so now v p x good done
    through_so now class v p good is (w ∷ ws) writes x done =
        let two = bound (is_found answers class v p w) (λ found. if found then Done w.value else through form most answers class v p ws) x done in
        looked now class v w ws p x writes.0.value two.0
        (found_so now class v w p good is writes.0 (is_write_of class p w) refl two.0 two.1)
        (through_so now class v p good is ws writes.1 x) two.2

    -- a field of a value is what its object's field holds now
    pub field_so : (ws : List Write) (count : ℕ) (now : List Object) → Matches form variables before objects ws count now → (v : Value) (p : ℕ) (x : Value)
        → IsGood form variables before objects now v → field_of form most answers ws v p ≡ Done x
        → IsGood form variables before objects now x × (denote before objects x ≡ get now (denote before objects v) p)
    field_so ws count now m (Before class t) p x good done =
        let h = through_so now class (Before class t) p good (m.kept class (object_of before objects t) (term_object t class good)) ws m.good x done in
        (h.0, h.1 ∙ sym (m.fields (object_of before objects t) p))
    field_so ws count now m (Fresh class n) p x good done =
        let h = through_so now class (Fresh class n) p good good ws m.good x done in
        (h.0, h.1 ∙ sym (m.fields (length before + suc n) p))
    field_so ws count now m Nothing p x good done =
        let none : Nothing ≡ x = cc in
        subst (λ (y : Value). IsGood form variables before objects now y × (denote before objects y ≡ get now 0 p)) none (tt, refl)

    -- what the fields lead to
    pub led_so : (ws : List Write) (count : ℕ) (now : List Object) → Matches form variables before objects ws count now → (ps : List ℕ) (v x : Value)
        → IsGood form variables before objects now v → led form most answers ws v ps ≡ Done x
        → IsGood form variables before objects now x × (denote before objects x ≡ fold (get now) (denote before objects v) ps)
    led_so ws count now m [] v x good done =
        let one : v ≡ x = cc in
        subst (λ (y : Value). IsGood form variables before objects now y × (denote before objects y ≡ denote before objects v)) one (good, refl)
    led_so ws count now m (p ∷ ps) v x good done =
        let two = bound (field_of form most answers ws v p) (λ y. led form most answers ws y ps) x done in
        let first = field_so ws count now m v p two.0 good two.1 in
        let rest = led_so ws count now m ps two.0 x first.0 two.2 in
        (rest.0, rest.1 ∙ ap (λ n. fold (get now) n ps) first.1)
