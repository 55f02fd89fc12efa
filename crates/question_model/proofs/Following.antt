-- A body under way on symbolic values follows the body on the heap: its slots, and what paths lead to.
use Rattle.std.proofs.Common.{◌≡◌, ℕ, zero, suc, ◌==◌, Bool, List, [], ◌∷◌, ◌++◌, map, fold, take, Option, slice_index, slice_index_or, slice_set, refl, ap, ap₂, sym, ◌∙◌}
use Rattle.easl_model.specs.Form.{Form}
use Rattle.easl_model.specs.declared.form.Reach as path
use Rattle.easl_heap.specs.Body as told
use Rattle.easl_heap.specs.{KeepsClasses, Object, get}
use Rattle.easl_heap.specs.Heap as heap_of
use Rattle.question_model.specs.{Done, Outcome, State, are_same, compared, reached, ◌>>=◌}
use Rattle.question_model.specs.declared.answer.Answer.{Answer}
use Rattle.question_model.specs.declared.value.Value.TheVariants.{Nothing}
use Rattle.question_model.specs.declared.value.Value.{Value}
use Rattle.question_model.proofs.Asking.{Agree, bound}
use Rattle.question_model.proofs.Meaning.{AllGood, IsGood, Matches, Start, denote}
use Rattle.question_model.proofs.Reading.{are_same_so, led_so}

pub slot_is : (before : List Object) (objects : List ℕ) (vs : List Value) (k : ℕ)
    → slice_index (map (denote before objects) vs) k ≡ denote before objects (slice_index_or vs k Nothing)
slot_is before objects [] k = refl
slot_is before objects (v ∷ vs) zero = refl
slot_is before objects (v ∷ vs) (suc k) = slot_is before objects vs k

pub set_is : (before : List Object) (objects : List ℕ) (vs : List Value) (k : ℕ) (x : Value)
    → map (denote before objects) (slice_set vs k x) ≡ slice_set (map (denote before objects) vs) k (denote before objects x)
set_is before objects [] k x = refl
set_is before objects (v ∷ vs) zero x = refl
set_is before objects (v ∷ vs) (suc k) x = ap (λ rest. denote before objects v ∷ rest) (set_is before objects vs k x)

pub last_is : (before : List Object) (objects : List ℕ) (vs : List Value) (x : Value)
    → map (denote before objects) (vs ++ x ∷ []) ≡ map (denote before objects) vs ++ denote before objects x ∷ []
last_is before objects [] x = refl
last_is before objects (v ∷ vs) x = ap (λ rest. denote before objects v ∷ rest) (last_is before objects vs x)

pub take_is : (before : List Object) (objects : List ℕ) (n : ℕ) (vs : List Value)
    → map (denote before objects) (take n vs) ≡ take n (map (denote before objects) vs)
take_is before objects zero vs = refl
take_is before objects (suc n) [] = refl
take_is before objects (suc n) (v ∷ vs) = ap (λ rest. denote before objects v ∷ rest) (take_is before objects n vs)

module _ (form : Form) (variables : List (Option ℕ)) (before : List Object) (objects : List ℕ) where
  pub good_slot : (heap : List Object) (vs : List Value) (k : ℕ) → AllGood form variables before objects heap vs
      → IsGood form variables before objects heap (slice_index_or vs k Nothing)
  good_slot heap [] k good = tt
  good_slot heap (v ∷ vs) zero good = good.0
  good_slot heap (v ∷ vs) (suc k) good = good_slot heap vs k good.1

  pub good_set : (heap : List Object) (vs : List Value) (k : ℕ) (x : Value) → AllGood form variables before objects heap vs
      → IsGood form variables before objects heap x → AllGood form variables before objects heap (slice_set vs k x)
  good_set heap [] k x good is = tt
  good_set heap (v ∷ vs) zero x good is = (is, good.1)
  good_set heap (v ∷ vs) (suc k) x good is = (good.0, good_set heap vs k x good.1 is)

  pub good_last : (heap : List Object) (vs : List Value) (x : Value) → AllGood form variables before objects heap vs
      → IsGood form variables before objects heap x → AllGood form variables before objects heap (vs ++ x ∷ [])
  good_last heap [] x good is = (is, tt)
  good_last heap (v ∷ vs) x good is = (good.0, good_last heap vs x good.1 is)

  pub good_take : (heap : List Object) (n : ℕ) (vs : List Value) → AllGood form variables before objects heap vs
      → AllGood form variables before objects heap (take n vs)
  good_take heap zero vs good = tt
  good_take heap (suc n) [] good = tt
  good_take heap (suc n) (v ∷ vs) good = (good.0, good_take heap n vs good.1)

  -- a body under way on symbolic values, and the same on the heap
  pub record Follows (s : State) (heap : List Object) (slots : List ℕ) : Type 0 where
    pub matches : Matches form variables before objects s.writes s.count heap
    pub slots_are : slots ≡ map (denote before objects) s.slots
    pub good : AllGood form variables before objects heap s.slots

  -- what evaluation leaves on symbolic values, and what it leaves of a heap
  pub record Leaves (x : Outcome) (heap : List Object) (o : told.Outcome) : Type 0 where
    pub matches : Matches form variables before objects x.writes x.count o.heap
    pub kept : KeepsClasses heap o.heap
    pub good : IsGood form variables before objects o.heap x.result
    pub result : o.result ≡ denote before objects x.result

module _ (form : Form) (variables : List (Option ℕ)) (before : List Object) (objects : List ℕ) (start : Start form variables before objects)
    (most : Option ℕ) (answers : List Answer) (agree : Agree before objects answers) where
  pub reached_so : (s : State) (heap : List Object) (slots : List ℕ) → Follows form variables before objects s heap slots → (r : path.Reach) (x : Value)
      → reached form most answers s r ≡ Done x → IsGood form variables before objects heap x × (denote before objects x ≡ heap_of.reached heap slots r)
  reached_so s heap slots f r x done =
      let begins = good_slot form variables before objects heap s.slots r.slot f.good in
      let l = led_so form variables before objects start most answers agree s.writes s.count heap f.matches r.fields
      (slice_index_or s.slots r.slot Nothing) x begins done in
      let first : denote before objects (slice_index_or s.slots r.slot Nothing) ≡ slice_index slots r.slot = sym (slot_is before objects s.slots r.slot)
      ∙ ap (λ ns. slice_index ns r.slot) (sym f.slots_are) in
      (l.0, l.1 ∙ ap (λ n. fold (get heap) n r.fields) first)

  pub compared_so : (s : State) (heap : List Object) (slots : List ℕ) → Follows form variables before objects s heap slots
      → (left right : path.Reach) (b : Bool) → compared form most answers s left right ≡ Done b
      → b ≡ (heap_of.reached heap slots left == heap_of.reached heap slots right)
  compared_so s heap slots f left right b done =
      let first = bound (reached form most answers s left) (λ v. reached form most answers s right >>= (λ w. are_same answers v w)) b done in
      let second = bound (reached form most answers s right) (λ w. are_same answers first.0 w) b first.2 in
      let v = reached_so s heap slots f left first.0 first.1 in
      let w = reached_so s heap slots f right second.0 second.1 in
      are_same_so form variables before objects start most answers agree heap first.0 second.0 b v.0 w.0 second.2 ∙ ap₂ (λ m n. m == n) v.1 w.1
