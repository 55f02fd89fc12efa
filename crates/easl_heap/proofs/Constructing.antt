-- Constructions keep what is whole, and make whole objects.
use Rattle.std.proofs.Common.{◌≡◌, ℕ, zero, suc, ◌+◌, ◌<◌, true, false, List, [], ◌∷◌, ◌++◌, length, arith, ap, refl, sym, subst}
use Rattle.std.specs.Prelude.{◌==◌, Option, Some, slice_get, slice_index}
use Rattle.std.specs.List.{AllZip, range_with_len}
use Rattle.std.specs.Option.{option_map_or}
use Rattle.std.proofs.lemmas.Bool.{eq-eqb}
use Rattle.std.proofs.lemmas.List.Folds.{list_any_at}
use Rattle.std.proofs.lemmas.List.FromFn.{get_or-range_with_len, length-range_with_len}
use Rattle.std.proofs.lemmas.Option.{slice_get_within}
use Rattle.std.proofs.lemmas.Slice.Zip.{AllZip-long}
use Rattle.easl_model.specs.{EndsSo, IsTyped, IsTypedMethod, NestsWithin, OfStatements, body_of, constructor_of, fields_of, is_among, standing_of}
use Rattle.easl_model.specs.{statements_of, taken_by}
use Rattle.easl_model.specs.Form.{Form}
use Rattle.easl_model.specs.Statements.{Statements}
use Rattle.easl_model.specs.declared.form.Method.{Method}
use Rattle.easl_model.proofs.Items.{all_at}
use Rattle.easl_heap.specs.{Making, Moment, Object, fresh, made, moment, run}
use Rattle.easl_heap.proofs.Called.{body_found}
use Rattle.easl_heap.proofs.Holding.{Holds, IsTaken, Makes, all_set}
use Rattle.easl_heap.proofs.Running.{run_keeps}
use Rattle.easl_heap.proofs.Whole.{AreShaped, IsWhole, Keeps, adding_stays, constructed_keeps, stays_whole}
use Rattle.easl_heap.proofs.Writes.{at_last, is_object}

-- every position is among all of them
all_among : (n p : ℕ) → p < n → is_among (range_with_len 0 n) p ≡ true
all_among n p within =
    list_any_at (λ q. q == p) (range_with_len 0 n) p 0 (omega (arith, within, length-range_with_len 0 n))
    (eq-eqb _ p (let e = get_or-range_with_len 0 n p 0 within in omega (arith, e)))

-- an argument of a class is whole
pub taken_at : (form : Form) (heap : List Object) (ts : List (Option ℕ)) (args : List ℕ) (k of : ℕ) → AllZip (IsTaken form heap) ts args
    → slice_get ts k ≡ Some (Some of) → IsWhole form heap of (slice_index args k)
taken_at form heap [] args k of zip at = absurd cc
taken_at form heap (t ∷ ts) [] k of zip at = absurd zip
taken_at form heap (t ∷ ts) (n ∷ args) zero of zip at = let e : t ≡ Some of = cc in subst (λ o. IsTaken form heap o n) e zip.0
taken_at form heap (t ∷ ts) (n ∷ args) (suc k) of zip at = taken_at form heap ts args k of zip.1 at

-- a constructor begins on a fresh object
abbrev start : Form → ℕ → List ℕ → List Object → ℕ → Moment
start form class args heap steps = moment (heap ++ fresh form class ∷ []) ((length heap + 1) ∷ args) steps

begins : (form : Form) (m : Method) (args : List ℕ) (heap : List Object) (steps : ℕ) → m.constructor ≡ true → m.class < length form.classes
    → AreShaped form heap → AllZip (IsTaken form heap) m.params args
    → Holds form (standing_of form m) m.class (length heap + 1) (start form m.class args heap steps).heap (start form m.class args heap steps).slots
begins form m args heap steps constructs there shaped taken =
    let begun = heap ++ fresh form m.class ∷ [] in
    let this = length heap + 1 in
    let stays = adding_stays form heap m.class there in
    record {
      shaped = stays.shaped shaped;
      first = refl;
      own = refl;
      many = omega (arith, AllZip-long (IsTaken form heap) m.params args taken);
      object = is_object begun this (fresh form m.class) (at_last heap (fresh form m.class));
      fields = λ p of at set.
          let among = all_among (length (fields_of form m.class)) p (slice_get_within (fields_of form m.class) p of at) in
          let unset : is_among (range_with_len 0 (length (fields_of form m.class))) p ≡ false = rw constructs at set in
          absurd cc;
      held = λ k of at. stays_whole form heap begun of (slice_index args k) stays (taken_at form heap m.params args k of taken at);
    }

-- these statements, executed on a fresh object of the class, keep what is whole and leave it whole
abbrev Construct : Form → Making → Statements → ℕ → List ℕ → List Object → ℕ → Type 0
Construct form make xs class args heap steps =
    Keeps form heap (run make xs (start form class args heap steps)).heap
    × IsWhole form (run make xs (start form class args heap steps)).heap class (length heap + 1)

constructed : (form : Form) (make : Making) (Q : ℕ → Type 0) → ((k : ℕ) → k < length form.classes → Q k → Makes form make k)
    → (m : Method) → IsTypedMethod form m → m.constructor ≡ true → OfStatements Q (statements_of m.body)
    → (args : List ℕ) (heap : List Object) (steps : ℕ) → AreShaped form heap → AllZip (IsTaken form heap) m.params args
    → Construct form make (statements_of m.body) m.class args heap steps
constructed form make Q makes m typed constructs all args heap steps shaped taken =
    let this = length heap + 1 in
    let begun : Moment = start form m.class args heap steps in
    let last : Moment = run make (statements_of m.body) begun in
    let ran = run_keeps form m.class this make Q makes (statements_of m.body) (standing_of form m) typed.end begun all typed.body
    (begins form m args heap steps constructs typed.of shaped taken) in
    let ends : EndsSo form typed.end m true = subst (EndsSo form typed.end m) constructs typed.ends in
    let w = all_set form typed.end m.class this last.heap last.slots ran.1 ends.1 in
    (constructed_keeps form heap last.heap m.class typed.of ran.0 w, w)

-- constructions whose constructors stand at most so deep in one another
pub made_keeps : (form : Form) → IsTyped form → (depth class : ℕ) → class < length form.classes → NestsWithin form depth class
    → Makes form (made form depth) class
made_keeps form typed zero class there nests args heap steps shaped taken = absurd nests
made_keeps form typed (suc depth) class there nests args heap steps shaped taken =
    let c = typed.constructors class there in
    let m = c.method in
    let found = body_found form (constructor_of form class) m c.found in
    let params : taken_by form class ≡ m.params = ap (λ (o : Option Method). option_map_or (λ (x : Method). x.params) o []) c.found in
    let done = constructed form (made form depth) (NestsWithin form depth) (λ k within deep. made_keeps form typed depth k within deep)
    m (all_at (IsTypedMethod form) form.methods (constructor_of form class) m typed.methods c.found) c.constructs
    (subst (OfStatements (NestsWithin form depth)) found nests)
    args heap steps shaped (subst (λ ts. AllZip (IsTaken form heap) ts args) params taken) in
    subst (λ k. Construct form (made form depth) (body_of form (constructor_of form class)) k args heap steps) c.of
    (subst (λ xs. Construct form (made form depth) xs m.class args heap steps) (sym found) done)
