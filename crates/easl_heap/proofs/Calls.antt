-- A call on a full heap leaves a full heap.
use Rattle.std.proofs.Common.{inl, inr, ◌≡◌, ℕ, ◌+◌, ◌<◌, true, false, List, [], ◌∷◌, length, arith, refl, ap, sym, subst}
use Rattle.std.specs.Prelude.{Option, Some, None, slice_get}
use Rattle.std.specs.List.{AllZip}
use Rattle.std.specs.Option.{option_map_or}
use Rattle.std.proofs.lemmas.Bool.{cases_Bool}
use Rattle.std.proofs.lemmas.Slice.Zip.{AllZip-long}
use Rattle.easl_model.specs.{Change, ConstructorsNest, EndsSo, IsChecked, IsOf, IsTyped, IsTypedMethod, Local, OfMade, OfStatement, OfStatements, Returns}
use Rattle.easl_model.specs.{Standing, Statement, Write, standing_of, statements_of}
use Rattle.easl_model.specs.Form.{Form}
use Rattle.easl_model.specs.Statements.{Statements, If, none, ◌▸◌}
use Rattle.easl_model.specs.Typed as typed_told
use Rattle.easl_model.specs.declared.form.Method.{Method}
use Rattle.easl_model.specs.declared.form.Source.{Source}
use Rattle.easl_model.specs.declared.form.Source.TheVariants.{Reach, Make}
use Rattle.easl_model.proofs.CheckedForms.{checked_nests, checked_typed}
use Rattle.easl_model.proofs.Items.{all_at, item_at}
use Rattle.easl_heap.specs.{AreOfClasses, GivesClass, IsFull, IsGiven, IsObjectOf, KeepsClasses, Making, Moment, Object, Outcome, body, called, made, moment}
use Rattle.easl_heap.specs.{outcome, returned, run, taken_by}
use Rattle.easl_heap.proofs.Called.{body_called, constructor_called, method_called}
use Rattle.easl_heap.proofs.Classes.{body_keeps}
use Rattle.easl_heap.proofs.Constructing.{made_keeps, taken_at}
use Rattle.easl_heap.proofs.FullHeaps.{full_shaped, full_whole, keeps_full}
use Rattle.easl_heap.proofs.Holding.{Holds, IsTaken, Makes, value_keeps}
use Rattle.easl_heap.proofs.Running.{run_keeps}
use Rattle.easl_heap.proofs.Whole.{Keeps, keeps_both, keeps_same, whole_field, whole_object}

-- what is given on a full heap is whole
given_taken : (form : Form) (heap : List Object) → IsFull form heap → (ts : List (Option ℕ)) (args : List ℕ) → AllZip (IsGiven heap) ts args
    → AllZip (IsTaken form heap) ts args
given_taken form heap full [] [] zip = tt
given_taken form heap full [] (n ∷ args) zip = absurd zip
given_taken form heap full (t ∷ ts) [] zip = absurd zip
given_taken form heap full (None ∷ ts) (n ∷ args) zip = (tt, given_taken form heap full ts args zip.1)
given_taken form heap full (Some class ∷ ts) (n ∷ args) zip = (full_whole form heap class n full zip.0, given_taken form heap full ts args zip.1)

-- a method begins
method_begins : (form : Form) (m : Method) (this : ℕ) (args : List ℕ) (heap : List Object) → m.constructor ≡ false → IsFull form heap
    → IsObjectOf heap m.class this → AllZip (IsGiven heap) m.params args
    → Holds form (standing_of form m) m.class this heap (this ∷ args)
method_begins form m this args heap plain full object given =
    let taken = given_taken form heap full m.params args given in
    record {
      shaped = full_shaped form heap full;
      first = refl;
      own = refl;
      many = omega (arith, AllZip-long (IsTaken form heap) m.params args taken);
      object = object;
      fields = λ p of at set. whole_field form heap m.class this p of (full_whole form heap m.class this full object) at;
      held = λ k of at. taken_at form heap m.params args k of taken at;
    }

-- what holds of every class holds of those that are made
of_made : (P : ℕ → Type 0) → ((k : ℕ) → P k) → (v : Source) → OfMade P v
of_made P all (Reach r) = tt
of_made P all (Make class args) = all class

mutual
  of_statement : (P : ℕ → Type 0) → ((k : ℕ) → P k) → (x : Statement) → OfStatement P x
  of_statement P all (Local v) = of_made P all v
  of_statement P all (Change slot v) = of_made P all v
  of_statement P all (Write owner p v) = of_made P all v
  of_statement P all (If c first second) = (of_statements P all first, of_statements P all second)

  of_statements : (P : ℕ → Type 0) → ((k : ℕ) → P k) → (xs : Statements) → OfStatements P xs
  of_statements P all none = tt
  of_statements P all (x ▸ xs) = (of_statement P all x, of_statements P all xs)

-- how calls make objects
abbrev outermost : Form → Making
outermost form = made form (length form.classes)

-- calls on a full heap keep what is whole
module _ (form : Form) (typed : IsTyped form) (nests : ConstructorsNest form) (heap : List Object) (full : IsFull form heap) where
  makes : (class : ℕ) → class < length form.classes → Makes form (outermost form) class
  makes class there = made_keeps form typed (length form.classes) class there (nests class there)

  -- what is left keeps what is whole, and gives an object of the method's result
  abbrev Leaves : Method → Outcome → Type 0
  Leaves m last = Keeps form heap last.heap × IsGiven last.heap m.result last.result

  -- a `return`
  returned_keeps : (s : Standing) (class this : ℕ) (result : Option ℕ) (v : Option Source) (m : Moment) → Returns form s result v
      → Holds form s class this m.heap m.slots
      → Keeps form m.heap (returned (outermost form) v m).heap × IsGiven (returned (outermost form) v m).heap result (returned (outermost form) v m).result
  returned_keeps s class this None None m is t = (keeps_same form m.heap, refl)
  returned_keeps s class this None (Some v) m is t = absurd is
  returned_keeps s class this (Some of) None m is t = absurd is
  returned_keeps s class this (Some of) (Some v) m is t =
      let last : Outcome = returned (outermost form) (Some v) m in
      let done = value_keeps form s class this m.heap m.slots t (outermost form) (λ k. Unit {0}) (λ k there all. makes k there) v of (m.steps + 1)
      (of_made (λ k. Unit {0}) (λ k. tt) v) is in
      (done.0, whole_object form last.heap of last.result done.1)

  constructor_keeps : (m : Method) (args : List ℕ) → IsTypedMethod form m → m.constructor ≡ true → AllZip (IsGiven heap) m.params args
      → Leaves m (outermost form m.class args heap 0)
  constructor_keeps m args mt constructs given =
      let params : typed_told.taken_by form m.class ≡ m.params = ap (λ (o : Option Method). option_map_or (λ (x : Method). x.params) o []) (mt.own constructs) in
      let taken = subst (λ ts. AllZip (IsTaken form heap) ts args) (sym params) (given_taken form heap full m.params args given) in
      let done = makes m.class mt.of args heap 0 (full_shaped form heap full) taken in
      let ends : EndsSo form mt.end m true = subst (EndsSo form mt.end m) constructs mt.ends in
      let last : Outcome = outermost form m.class args heap 0 in
      (done.0, subst (λ o. IsGiven last.heap o last.result) (sym ends.0) (whole_object form last.heap m.class last.result done.1))

  method_keeps : (m : Method) (args : List ℕ) → IsTypedMethod form m → m.constructor ≡ false → AllZip (IsGiven heap) (Some m.class ∷ m.params) args
      → Leaves m (returned (outermost form) m.value (run (outermost form) (statements_of m.body) (moment heap args 0)))
  method_keeps m [] mt plain given = absurd given
  method_keeps m (this ∷ args) mt plain given =
      let start : Moment = moment heap (this ∷ args) 0 in
      let after : Moment = run (outermost form) (statements_of m.body) start in
      let ran = run_keeps form m.class this (outermost form) (λ k. Unit {0}) (λ k there all. makes k there)
      (statements_of m.body) (standing_of form m) mt.end start (of_statements (λ k. Unit {0}) (λ k. tt) (statements_of m.body)) mt.body (method_begins form m this args heap plain full given.0 given.1) in
      let ends : EndsSo form mt.end m false = subst (EndsSo form mt.end m) plain mt.ends in
      let gave = returned_keeps mt.end m.class this m.result m.value after ends ran.1 in
      (keeps_both form heap after.heap (returned (outermost form) m.value after).heap ran.0 gave.0, gave.1)

  called_keeps : (m : Method) (args : List ℕ) → IsTypedMethod form m → AllZip (IsGiven heap) (taken_by m) args → Leaves m (called form m args heap)
  called_keeps m args mt given =
      elim (cases_Bool m.constructor) [
        | inl constructs ↦
            let params : taken_by m ≡ m.params = rw constructs refl in
            subst (Leaves m) (sym (constructor_called form m args heap constructs))
            (constructor_keeps m args mt constructs (subst (λ ts. AllZip (IsGiven heap) ts args) params given))
        | inr plain ↦
            let params : taken_by m ≡ Some m.class ∷ m.params = rw plain refl in
            subst (Leaves m) (sym (method_called form m args heap plain))
            (method_keeps m args mt plain (subst (λ ts. AllZip (IsGiven heap) ts args) params given))
      ]

taken : (form : Form) (n : ℕ) (m : Method) (args : List ℕ) (heap : List Object) → slice_get form.methods n ≡ Some m → AreOfClasses form n heap args
    → AllZip (IsGiven heap) (taken_by m) args
taken form n m args heap at are = rw at at are

gives : (form : Form) (n : ℕ) (m : Method) (heap : List Object) (result : ℕ) → slice_get form.methods n ≡ Some m → IsGiven heap m.result result
    → GivesClass form n heap result
gives form n m heap result at given = rw at given

-- what the contract says of a body on a full heap
body_full : (form : Form) → IsTyped form → ConstructorsNest form → (n : ℕ) (m : Method) (args : List ℕ) (heap : List Object)
    → slice_get form.methods n ≡ Some m → IsFull form heap → AreOfClasses form n heap args
    → IsFull form (body form n args heap).heap × GivesClass form n (body form n args heap).heap (body form n args heap).result
body_full form typed nests n m args heap at full are =
    let mt = all_at (IsTypedMethod form) form.methods n m typed.methods at in
    let done = called_keeps form typed nests heap full m args mt (taken form n m args heap at are) in
    subst (λ (x : Outcome). IsFull form x.heap × GivesClass form n x.heap x.result) (sym (body_called form n m args heap at))
    (keeps_full form heap (called form m args heap).heap full done.0, gives form n m (called form m args heap).heap (called form m args heap).result at done.1)

-- what a call leaves is what its body leaves
pub call_full : (form : Form) → IsChecked form → (n : ℕ) (args : List ℕ) (heap new : List Object) (result steps : ℕ) → n < length form.methods
    → outcome new result steps ≡ body form n args heap → IsFull form heap → AreOfClasses form n heap args
    → IsFull form new × GivesClass form n new result
call_full form checked n args heap new result steps there is full are =
    let m = item_at form.methods n there in
    subst (λ (x : Outcome). IsFull form x.heap × GivesClass form n x.heap x.result) (sym is)
    (body_full form (checked_typed form checked) (checked_nests form checked) n m.0 args heap m.1 full are)

pub call_kept : (form : Form) (n : ℕ) (args : List ℕ) (heap new : List Object) (result steps : ℕ) → outcome new result steps ≡ body form n args heap
    → KeepsClasses heap new
call_kept form n args heap new result steps is =
    subst (λ (x : Outcome). KeepsClasses heap x.heap) (sym is) (body_keeps form n args heap)
