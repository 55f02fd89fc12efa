-- Statements keep what is whole.
use Rattle.std.proofs.Common.{inl, inr, ◌≡◌, ◌≢◌, ℕ, zero, suc, ◌+◌, ◌<◌, ◌≤◌, Bool, true, false, List, [], ◌∷◌, ◌++◌, fold, length, take, arith, refl, ap, sym, subst, ◌∙◌, append-nil, append_assoc, eqb-true, length-append, length-set, get_or-set_other}
use Rattle.std.specs.Prelude.{Option, Some, not, ◌==◌, ◌||◌, ◌⊎◌, if◌then◌else◌, slice_get, slice_index, slice_set}
use Rattle.std.specs.List.{filter}
use Rattle.std.specs.Option.{option_flatten}
use Rattle.std.proofs.lemmas.Bool.{cases_Bool, or_parts}
use Rattle.std.proofs.lemmas.Map.Views.{any-filter_same}
use Rattle.std.proofs.lemmas.List.{get_or_append_left, get_or-append-add, get_or-take, length-take-le}
use Rattle.std.proofs.lemmas.Option.{slice_get_within}
use Rattle.easl_model.specs.{AreTyped, Change, IsTypedStatement, Local, OfStatement, OfStatements, Standing, Statement, Write, behind_both, fields_of}
use Rattle.easl_model.specs.{is_among, left_by, slot_class}
use Rattle.easl_model.specs.Form.{Form}
use Rattle.easl_model.specs.Statements.{Statements, If, none, ◌▸◌}
use Rattle.easl_model.proofs.None.{not_not}
use Rattle.easl_heap.specs.{IsObjectOf, Making, Moment, Object, counted, get, holds, moment, reached, run, step, write}
use Rattle.easl_heap.specs.Body as told
use Rattle.easl_heap.proofs.Holding.{Holds, Makes, read_object, value_keeps}
use Rattle.easl_heap.proofs.Whole.{IsWhole, Keeps, keeps_both, keeps_same, stays_whole, writing, written}
use Rattle.easl_heap.proofs.Writes.{index_set_cases, one_class, slice_before, slice_cases}

-- what is not among those that are kept was not among them, or is not kept
filtered : (keep : ℕ → Bool) (us : List ℕ) (q : ℕ) → is_among (filter keep us) q ≡ false → (is_among us q ≡ false) ⊎ (keep q ≡ false)
filtered keep us q e = elim (cases_Bool (keep q)) [
  | inl kept ↦
      let same = any-filter_same (λ u. u == q) keep (keep q) (λ u is. ap keep (eqb-true u q is)) us in
      inl (rw kept at (sym same ∙ e))
  | inr dropped ↦ inr dropped
]

-- what is set behind a write was set before it, or is what is written
set_cases : (slot : ℕ) (fields : List ℕ) (p q : ℕ) (unset : List ℕ) → is_among (left_by slot fields p unset) q ≡ false
    → (is_among unset q ≡ false) ⊎ ((slot ≡ 0) × (fields ≡ []) × (q ≡ p))
set_cases (suc n) fields p q unset e = inl e
set_cases zero (f ∷ fields) p q unset e = inl e
set_cases zero [] p q unset e = elim (filtered (λ r. not (r == p)) unset q e) [
  | inl before ↦ inl before
  | inr out ↦ inr (refl, refl, eqb-true q p (not_not (q == p) out))
]

-- behind statements there are the slots that there were before them, and others
mutual
  statement_grows : (form : Form) (x : Statement) (s end : Standing) → IsTypedStatement form s x end → (more : List (Option ℕ)) × (end.slots ≡ s.slots ++ more)
  statement_grows form (Local v) s end typed = (Some typed.0 ∷ [], ap (λ (x : Standing). x.slots) typed.2)
  statement_grows form (Change slot v) s end typed = ([], ap (λ (x : Standing). x.slots) typed.4 ∙ sym (append-nil s.slots))
  statement_grows form (Write owner p v) s end typed = ([], ap (λ (x : Standing). x.slots) typed.4 ∙ sym (append-nil s.slots))
  statement_grows form (If c first second) s end typed = ([], ap (λ (x : Standing). x.slots) typed.5 ∙ sym (append-nil s.slots))

  body_grows : (form : Form) (xs : Statements) (s end : Standing) → AreTyped form s xs end → (more : List (Option ℕ)) × (end.slots ≡ s.slots ++ more)
  body_grows form none s end typed = ([], ap (λ (x : Standing). x.slots) (sym typed) ∙ sym (append-nil s.slots))
  body_grows form (x ▸ xs) s end typed =
      let one = statement_grows form x s typed.0 typed.1 in
      let others = body_grows form xs typed.0 end typed.2 in
      (one.0 ++ others.0, others.1 ∙ ap (λ slots. slots ++ others.0) one.1 ∙ append_assoc s.slots one.0 others.0)

module _ (form : Form) (s : Standing) (class this : ℕ) where
  -- on a later heap
  moved : (heap later : List Object) (slots : List ℕ) → Keeps form heap later → Holds form s class this heap slots → Holds form s class this later slots
  moved heap later slots k t = record {
    shaped = k.stays.shaped t.shaped;
    first = t.first;
    own = t.own;
    many = t.many;
    object = k.stays.kept class this t.object;
    fields = λ p of at set. k.stays.fields class this p of t.object at (t.fields p of at set);
    held = λ i of at. stays_whole form heap later of (slice_index slots (suc i)) k.stays (t.held i of at);
  }

  -- behind a local
  declared : (heap : List Object) (slots : List ℕ) (of o : ℕ) → IsWhole form heap of o → Holds form s class this heap slots
      → Holds form (record s { slots = s.slots ++ Some of ∷ [] }) class this heap (slots ++ o ∷ [])
  declared heap slots of o w t =
      let some : 0 < length s.slots = slice_get_within s.slots 0 (Some class) t.own in
      record {
        shaped = t.shaped;
        first = get_or_append_left slots (o ∷ []) 0 0 (omega (arith, t.many, some)) ∙ t.first;
        own = slice_before s.slots (Some of ∷ []) 0 (Some class) t.own;
        many = omega (arith, t.many, length-append slots (o ∷ []), length-append s.slots (Some of ∷ []));
        object = t.object;
        fields = t.fields;
        held = λ i end at.
            elim (slice_cases s.slots (Some of) (Some end) (suc i) at) [
              | inl before ↦
                  let few : suc i < length slots = omega (arith, t.many, slice_get_within s.slots (suc i) (Some end) before) in
                  subst (IsWhole form heap end) (sym (get_or_append_left slots (o ∷ []) 0 (suc i) few)) (t.held i end before)
              | inr last ↦
                  let e : length slots + 0 ≡ suc i = omega (arith, t.many, last.0) in
                  let there : slice_index (slots ++ o ∷ []) (suc i) ≡ o = ap (slice_index (slots ++ o ∷ [])) (sym e) ∙ get_or-append-add slots (o ∷ []) 0 0 in
                  let same : of ≡ end = (let is = last.1 in cc) in
                  subst (IsWhole form heap end) (sym there) (subst (λ c. IsWhole form heap c o) same w)
            ];
      }

  -- behind a change of a slot
  changed : (heap : List Object) (slots : List ℕ) (slot of o : ℕ) → 0 < slot → slot_class s slot ≡ Some of → IsWhole form heap of o
      → Holds form s class this heap slots
      → Holds form s class this heap (slice_set slots slot o)
  changed heap slots slot of o some is w t =
      let other : 0 ≢ slot = λ e. omega arith in
      record {
        shaped = t.shaped;
        first = get_or-set_other slots slot 0 o 0 other ∙ t.first;
        own = t.own;
        many = length-set slots slot o ∙ t.many;
        object = t.object;
        fields = t.fields;
        held = λ i end at.
            elim (index_set_cases slots slot o (suc i)) [
              | inl same ↦ subst (IsWhole form heap end) (sym same) (t.held i end at)
              | inr set ↦
                  let found : Some end ≡ Some of = sym (ap option_flatten at) ∙ ap (slot_class s) set.0 ∙ is in
                  let e : of ≡ end = cc in
                  subst (IsWhole form heap end) (sym set.1) (subst (λ c. IsWhole form heap c o) e w)
            ];
      }

  -- behind a write of a field: the owner is found on the heap before the value
  wrote : (heap later : List Object) (slots : List ℕ) (owner : ℕ) (slot : ℕ) (fields : List ℕ) (p of end o : ℕ) → IsObjectOf heap of owner
      → slice_get (fields_of form of) p ≡ Some end
      → (slot ≡ 0 → fields ≡ [] → owner ≡ this) → Keeps form heap later → IsWhole form later end o → Holds form s class this heap slots
      → Keeps form heap (write later owner p o) × Holds form (record s { unset = left_by slot fields p s.unset }) class this (write later owner p o) slots
  wrote heap later slots owner slot fields p of end o is at own kept w t =
      let object = kept.stays.kept of owner is in
      let last = write later owner p o in
      let writes = writing form later owner p o of end object at w in
      let t' = moved later last slots writes (moved heap later slots kept t) in (
        keeps_both form heap later last kept writes,
        record {
          shaped = t'.shaped;
          first = t'.first;
          own = t'.own;
          many = t'.many;
          object = t'.object;
          fields = λ q to at_q set.
              elim (set_cases slot fields p q s.unset set) [
                | inl before ↦ t'.fields q to at_q before
                | inr now ↦
                    let same = own now.0 now.1 in
                    let of_this : IsObjectOf heap of this = subst (IsObjectOf heap of) same is in
                    let one = one_class heap class of this t.object of_this in
                    let found : Some to ≡ Some end =
                    sym at_q ∙ ap (slice_get (fields_of form class)) now.2 ∙ ap (λ k. slice_get (fields_of form k) p) one ∙ at in
                    let e : end ≡ to = cc in
                    let there : get last this q ≡ o =
                    ap (λ n. get last n q) (sym same) ∙ ap (get last owner) now.2 ∙ written form later owner p o of end (kept.stays.shaped t.shaped) object at in
                    subst (IsWhole form last to) (sym there) (subst (λ c. IsWhole form last c o) e (stays_whole form later last end o writes.stays w))
              ];
          held = t'.held;
        },
      )

  -- behind a branch: its slots have ended, and what counts as set was set before it or in it
  branch_ended : (heap later : List Object) (slots after : List ℕ) (end : Standing) (left : List ℕ) (more : List (Option ℕ)) → end.slots ≡ s.slots ++ more
      → ((p : ℕ) → is_among left p ≡ false → (is_among s.unset p ≡ false) ⊎ (is_among end.unset p ≡ false))
      → Keeps form heap later → Holds form s class this heap slots → Holds form end class this later after
      → Holds form (record s { unset = left }) class this later (take (length slots) after)
  branch_ended heap later slots after end left more grown split kept t u =
      let some : 0 < length slots = omega (arith, t.many, slice_get_within s.slots 0 (Some class) t.own) in
      let few : length slots ≤ length after = omega (arith, t.many, u.many, ap (λ (os : List (Option ℕ)). length os) grown, length-append s.slots more) in
      record {
        shaped = u.shaped;
        first = get_or-take (length slots) after 0 0 some ∙ u.first;
        own = t.own;
        many = length-take-le (length slots) after few ∙ t.many;
        object = u.object;
        fields = λ p of at set.
            elim (split p set) [
              | inl before ↦ kept.stays.fields class this p of t.object at (t.fields p of at before)
              | inr now ↦ u.fields p of at now
            ];
        held = λ i of at.
            let within : suc i < length slots = omega (arith, t.many, slice_get_within s.slots (suc i) (Some of) at) in
            let still = subst (λ os. slice_get os (suc i) ≡ Some (Some of)) (sym grown) (slice_before s.slots more (suc i) (Some of) at) in
            subst (IsWhole form later of) (sym (get_or-take (length slots) after (suc i) 0 within)) (u.held i of still);
      }

  -- what counts as set behind a conditional was set before it, or in both branches
  set_in_both : (one other : Standing) (p : ℕ) → is_among (behind_both s one other).unset p ≡ false
      → (is_among s.unset p ≡ false) ⊎ ((is_among one.unset p ≡ false) × (is_among other.unset p ≡ false))
  set_in_both one other p e = elim (filtered (λ q. is_among one.unset q || is_among other.unset q) s.unset p e) [
    | inl before ↦ inl before
    | inr both ↦ inr (or_parts (is_among one.unset p) _ both)
  ]

chosen : (P : Moment → Type 0) (b : Bool) (x y : Moment) → P x → P y → P (if b then x else y)
chosen P true x y p q = p
chosen P false x y p q = q

-- statements in which each class that is made has a property, where constructions of such classes keep what is whole
module _ (form : Form) (class this : ℕ) (make : Making) (Q : ℕ → Type 0) (makes : (k : ℕ) → k < length form.classes → Q k → Makes form make k) where
  -- the heap keeps what is whole, and the slots hold what they do behind the statement
  abbrev Leaves : Standing → Moment → Moment → Type 0
  Leaves end m after = Keeps form m.heap after.heap × Holds form end class this after.heap after.slots

  mutual
    step_keeps : (x : Statement) (s end : Standing) (m : Moment) → OfStatement Q x → IsTypedStatement form s x end
        → Holds form s class this m.heap m.slots → Leaves end m (step make x m)
    step_keeps (Local v) s end m made typed t =
        let x = told.value make v m in
        let done = value_keeps form s class this m.heap m.slots t make Q makes v typed.0 m.steps made typed.1 in
        let later = moved form s class this m.heap x.heap m.slots done.0 t in
        subst (λ n. Leaves n m (step make (Local v) m)) (sym typed.2) (done.0, declared form s class this x.heap m.slots typed.0 x.result done.1 later)
    step_keeps (Change slot v) s end m made typed t =
        let x = told.value make v m in
        let done = value_keeps form s class this m.heap m.slots t make Q makes v typed.0 m.steps made typed.3 in
        let later = moved form s class this m.heap x.heap m.slots done.0 t in
        subst (λ n. Leaves n m (step make (Change slot v) m)) (sym typed.4)
        (done.0, changed form s class this x.heap m.slots slot typed.0 x.result typed.1 typed.2 done.1 later)
    step_keeps (Write owner p v) s end m made typed t =
        let x = told.value make v m in
        let done = value_keeps form s class this m.heap m.slots t make Q makes v typed.0 m.steps made typed.3 in
        let field = typed.1 in
        let object = read_object form s class this m.heap m.slots t owner field.0 field.1 typed.2 in
        subst (λ n. Leaves n m (step make (Write owner p v) m)) (sym typed.4)
        (wrote form s class this m.heap x.heap m.slots (reached m.heap m.slots owner) owner.slot owner.fields p field.0 typed.0 x.result object field.2
        (λ slot fields. ap (λ k. fold (get m.heap) (slice_index m.slots k) owner.fields) slot ∙ ap (fold (get m.heap) (slice_index m.slots 0)) fields ∙ t.first)
        done.0 done.1 t)
    step_keeps (If c first second) s end m made typed t =
        let one = run_keeps first s typed.0 m made.0 typed.3 t in
        let other = run_keeps second s typed.1 m made.1 typed.4 t in
        let left = (behind_both s typed.0 typed.1).unset in
        let x : Moment = run make first m in
        let y : Moment = run make second m in
        let grown = body_grows form first s typed.0 typed.3 in
        let widened = body_grows form second s typed.1 typed.4 in
        subst (λ n. Leaves n m (step make (If c first second) m)) (sym typed.5)
        (chosen (λ z. Leaves (behind_both s typed.0 typed.1) m (told.ended m z)) (holds m.heap m.slots c) x y (
          one.0,
          branch_ended form s class this m.heap x.heap m.slots x.slots typed.0 left grown.0 grown.1
              (λ p set. elim (set_in_both form s class this typed.0 typed.1 p set) [ inl before ↦ inl before | inr both ↦ inr both.0 ]) one.0 t one.1,
        ) (
          other.0,
          branch_ended form s class this m.heap y.heap m.slots y.slots typed.1 left widened.0 widened.1
              (λ p set. elim (set_in_both form s class this typed.0 typed.1 p set) [ inl before ↦ inl before | inr both ↦ inr both.1 ]) other.0 t other.1,
        ))

    pub run_keeps : (xs : Statements) (s end : Standing) (m : Moment) → OfStatements Q xs → AreTyped form s xs end
        → Holds form s class this m.heap m.slots → Leaves end m (run make xs m)
    run_keeps none s end m made typed t = (keeps_same form m.heap, subst (λ n. Holds form n class this m.heap m.slots) typed t)
    run_keeps (x ▸ xs) s end m made typed t =
        let next : Moment = step make x (counted m) in
        let first = step_keeps x s typed.0 (counted m) made.0 typed.1 t in
        let others = run_keeps xs typed.0 end next made.1 typed.2 first.1 in
        (keeps_both form m.heap next.heap (run make xs next).heap first.0 others.0, others.1)
