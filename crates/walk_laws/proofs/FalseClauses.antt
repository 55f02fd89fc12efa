-- The first false clause of a method.
use Rattle.std.proofs.Common.{◌≡◌, ◌∙◌, ℕ, zero, suc, ◌+◌, ◌-◌, ◌≤◌, Bool, true, false, not, cond, List, [], ◌∷◌, map, ap, arith, refl, sym}
use Rattle.std.specs.Prelude.{Some, None, if◌then◌else◌, slice_get}
use Rattle.std.specs.List.{position_from}
use Rattle.easl_heap.specs.Clause.{first_failing, holds}
use Rattle.easl_heap.specs.Heap.{Object}
use Rattle.easl_model.specs.{condition_of}
use Rattle.easl_model.specs.declared.form.Method.{Method}
use Rattle.easl_model.specs.declared.form.Test.{Test}
use Rattle.walk_laws.proofs.Objects.{inner}

-- a clause of the method is false
pub record IsFalse (m : Method) (heap : List Object) (args : List ℕ) (clause : ℕ) : Type 0 where
  pub plain : m.constructor ≡ false
  pub some : 1 ≤ clause
  pub test : Test
  pub at : slice_get m.clauses (clause - 1) ≡ Some test
  pub is_false : holds heap args (condition_of test) ≡ false

-- the first item that passes a test
record IsFirst {A : Type 0} (t : A → Bool) (i : ℕ) (xs : List A) (n : ℕ) : Type 0 where
  place : ℕ
  number : n ≡ i + place
  item : A
  there : slice_get xs place ≡ Some item
  passes : t item ≡ true

first_is : {A : Type 0} (t : A → Bool) (i : ℕ) (xs : List A) (n : ℕ) → position_from t i xs ≡ Some n → IsFirst t i xs n
first_is t i [] n is = absurd (none is)
  where
    none : None ≡ Some n → ⊥
    none is = absurd cc
first_is {A} t i (x ∷ xs) n is = of_test (t x) refl is (λ later. first_is t (i + 1) xs n later)
  where
    of_test : (b : Bool) → t x ≡ b → cond b (Some i) (position_from t (i + 1) xs) ≡ Some n →
        (position_from t (i + 1) xs ≡ Some n → IsFirst t (i + 1) xs n) → IsFirst t i (x ∷ xs) n
    of_test true passes at rest =
        let same : i ≡ n = inner at in record { place = 0; number = omega (arith, same); item = x; there = refl; passes = passes }
    of_test false passes at rest =
        let later : IsFirst t (i + 1) xs n = rest at in
        record { place = suc later.place; number = omega (arith, later.number); item = later.item; there = later.there; passes = later.passes }

first_there : {A : Type 0} (t : A → Bool) (i : ℕ) (xs : List A) (k : ℕ) (c : A) → slice_get xs k ≡ Some c → t c ≡ true →
    (n : ℕ) × (n ≤ i + k) × (position_from t i xs ≡ Some n)
first_there t i [] k c at passes = absurd (none at)
  where
    none : None ≡ Some c → ⊥
    none is = absurd cc
first_there t i (x ∷ xs) k c at passes = of_test (t x) refl k at (λ later there. first_there t (i + 1) xs later c there passes)
  where
    unlike : true ≡ false → ⊥
    unlike is = absurd cc

    of_test : (b : Bool) → t x ≡ b → (k : ℕ) → slice_get (x ∷ xs) k ≡ Some c →
        ((later : ℕ) → slice_get xs later ≡ Some c → (n : ℕ) × (n ≤ (i + 1) + later) × (position_from t (i + 1) xs ≡ Some n)) →
        (n : ℕ) × (n ≤ i + k) × (cond (t x) (Some i) (position_from t (i + 1) xs) ≡ Some n)
    of_test true is k at rest = (i, omega arith, ap (λ b. cond b (Some i) (position_from t (i + 1) xs)) is)
    of_test false is zero at rest = absurd (unlike (sym passes ∙ ap t (sym (inner at)) ∙ is))
    of_test false is (suc k) at rest =
        let later = rest k at in
        (later.0, omega (arith, later.1), ap (λ b. cond b (Some i) (position_from t (i + 1) xs)) is ∙ later.2)

of_map_at : {A B : Type 0} (f : A → B) (xs : List A) (k : ℕ) (y : B) → slice_get (map f xs) k ≡ Some y → (x : A) × (slice_get xs k ≡ Some x) × (f x ≡ y)
of_map_at f [] k y at = absurd (none at)
  where
    none : None ≡ Some y → ⊥
    none is = absurd cc
of_map_at f (x ∷ xs) zero y at = (x, refl, inner at)
of_map_at f (x ∷ xs) (suc k) y at = of_map_at f xs k y at

map_at : {A B : Type 0} (f : A → B) (xs : List A) (k : ℕ) (x : A) → slice_get xs k ≡ Some x → slice_get (map f xs) k ≡ Some (f x)
map_at f [] k x at = absurd (none at)
  where
    none : None ≡ Some x → ⊥
    none is = absurd cc
map_at f (y ∷ xs) zero x at = ap (λ z. Some (f z)) (inner at)
map_at f (y ∷ xs) (suc k) x at = map_at f xs k x at

-- the first failing clause is false
pub failing_false : (m : Method) (heap : List Object) (args : List ℕ) (clause : ℕ) → first_failing m heap args ≡ Some clause → IsFalse m heap args clause
failing_false m heap args clause is = of_kind m.constructor refl is
  where
    not_true : (b : Bool) → not b ≡ true → b ≡ false
    not_true true e = absurd cc
    not_true false e = refl

    none : None ≡ Some clause → ⊥
    none is = absurd cc

    of_kind : (b : Bool) → m.constructor ≡ b →
        (if b then None else position_from (λ c. not (holds heap args c)) 1 (map condition_of m.clauses)) ≡ Some clause → IsFalse m heap args clause
    of_kind true plain e = absurd (none e)
    of_kind false plain e =
        let first = first_is (λ c. not (holds heap args c)) 1 (map condition_of m.clauses) clause e in
        let test = of_map_at condition_of m.clauses first.place first.item first.there in
        let place : clause - 1 ≡ first.place = omega (arith, first.number) in
        record {
          plain = plain;
          some = omega (arith, first.number);
          test = test.0;
          at = ap (slice_get m.clauses) place ∙ test.1;
          is_false = ap (holds heap args) test.2 ∙ not_true (holds heap args first.item) first.passes;
        }

-- and where one is false there is a first
pub false_failing : (m : Method) (heap : List Object) (args : List ℕ) (clause : ℕ) → IsFalse m heap args clause →
    (first : ℕ) × (first ≤ clause) × (first_failing m heap args ≡ Some first)
false_failing m heap args clause f =
    let found = first_there (λ c. not (holds heap args c)) 1 (map condition_of m.clauses) (clause - 1) (condition_of f.test)
    (map_at condition_of m.clauses (clause - 1) f.test f.at) (ap not f.is_false)
    in
    let some : 1 ≤ clause = f.some in
    let less : found.0 ≤ clause = omega (arith, found.1, some) in
    (found.0, less, ap (λ b. if b then None else position_from (λ c. not (holds heap args c)) 1 (map condition_of m.clauses)) f.plain ∙ found.2)
