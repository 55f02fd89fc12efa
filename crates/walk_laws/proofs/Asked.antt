-- Each question on a method and a family that may be asked has an entry.
use Rattle.std.proofs.Common.{◌≡◌, ◌∙◌, ℕ, zero, suc, ◌+◌, ◌-◌, ◌<◌, ◌≤◌, Bool, true, false, cond, List, [], ◌∷◌, Contains, map}
use Rattle.std.proofs.Common.{ap, arith, subst, sym, ⊎_elim}
use Rattle.std.specs.Prelude.{Some, slice_get}
use Rattle.std.specs.List.{AllZip, filter, range_with_len}
use Rattle.std.proofs.lemmas.List.Elements.{Contains-append_left, Contains-append_right}
use Rattle.access_paths.proofs.Members.{head_member, in_map, no_member, tail_member, which_member}
use Rattle.access_paths.specs.declared.term.Family.{Family}
use Rattle.easl_model.specs.Form.{Form}
use Rattle.easl_model.specs.declared.form.Method.{Method}
use Rattle.method_abstraction.specs.{clause_count, clause_questions, clauses_from, may_stand, result_sets, update_questions, updates_by, updates_from}
use Rattle.method_abstraction.specs.declared.entry.Question.TheVariants.{Clause, Update}
use Rattle.walk_laws.proofs.Objects.{inner}

from_zero : (k : ℕ) → 0 + k ≡ k
from_zero k = omega arith

passes_member : {X : Type 0} (p : X → Bool) (xs : List X) (x : X) → Contains xs x → p x ≡ true → Contains (filter p xs) x
passes_member p [] x has passes = absurd (no_member x has)
passes_member {X} p (y ∷ xs) x has passes =
    ⊎_elim (λ (same : y ≡ x). here (p y) (ap p same ∙ passes) same)
    (λ (later : Contains xs x). kept (p y) (passes_member p xs x later passes)) (which_member y xs x has)
  where
    here : (b : Bool) → b ≡ true → y ≡ x → Contains (cond b (y ∷ filter p xs) (filter p xs)) x
    here true is same = subst (Contains (y ∷ filter p xs)) same (head_member y (filter p xs))
    here false is same = absurd cc

    kept : (b : Bool) → Contains (filter p xs) x → Contains (cond b (y ∷ filter p xs) (filter p xs)) x
    kept true later = tail_member y (filter p xs) x later
    kept false later = later

range_member : (a n k : ℕ) → a ≤ k → k < a + n → Contains (range_with_len a n) k
range_member a zero k from below = absurd (omega (arith, from, below))
range_member a (suc n) k from below = of_rest (k - a) (omega (arith, from)) (λ more. range_member (a + 1) n k more (omega (arith, below)))
  where
    of_rest : (r : ℕ) → k ≡ a + r → (a + 1 ≤ k → Contains (range_with_len (a + 1) n) k) → Contains (a ∷ range_with_len (a + 1) n) k
    of_rest zero is later =
        let same : a ≡ k = omega (arith, is) in subst (Contains (a ∷ range_with_len (a + 1) n)) same (head_member a (range_with_len (a + 1) n))
    of_rest (suc r) is later = tail_member a (range_with_len (a + 1) n) k (later (omega (arith, is)))

updates_by_member : (number : ℕ) (family : Family) (n k : ℕ) (ms : List Method) (m : Method) (results : ℕ) → slice_get ms k ≡ Some m → results < 8 →
    may_stand m family results ≡ true → Contains (updates_by number family n ms) (Update (n + k) results number)
updates_by_member number family n k [] m results at few may = absurd cc
updates_by_member number family n zero (x ∷ ms) m results at few may =
    let same : x ≡ m = inner at in
    let n_same : n ≡ n + 0 = omega arith in
    let among : Contains (result_sets x family) results =
    passes_member (may_stand x family) (range_with_len 0 8) results (range_member 0 8 results (omega arith) (omega (arith, few)))
    (subst (λ y. may_stand y family results ≡ true) (sym same) may)
    in
    subst (λ j. Contains (updates_by number family n (x ∷ ms)) (Update j results number)) n_same
    (Contains-append_left (map (λ r. Update n r number) (result_sets x family)) (updates_by number family (suc n) ms) (Update n results number)
    (in_map (λ r. Update n r number) (result_sets x family) results among))
updates_by_member number family n (suc k) (x ∷ ms) m results at few may =
    let n_same : suc n + k ≡ n + suc k = omega arith in
    subst (λ j. Contains (updates_by number family n (x ∷ ms)) (Update j results number)) n_same
    (Contains-append_right (map (λ r. Update n r number) (result_sets x family)) (updates_by number family (suc n) ms) (Update (suc n + k) results number)
    (updates_by_member number family (suc n) k ms m results at few may))

updates_member : (form : Form) (n k : ℕ) (families : List Family) (family : Family) (method : ℕ) (m : Method) (results : ℕ) →
    slice_get families k ≡ Some family → slice_get form.methods method ≡ Some m → results < 8 → may_stand m family results ≡ true →
    Contains (updates_from form n families) (Update method results (n + k))
updates_member form n k [] family method m results at there few may = absurd cc
updates_member form n zero (f ∷ families) family method m results at there few may =
    let same : f ≡ family = inner at in
    let n_same : n ≡ n + 0 = omega arith in
    subst (λ j. Contains (updates_from form n (f ∷ families)) (Update method results j)) n_same
    (Contains-append_left (updates_by n f 0 form.methods) (updates_from form (suc n) families) (Update method results n)
    (subst (λ j. Contains (updates_by n f 0 form.methods) (Update j results n)) (from_zero method)
    (updates_by_member n f 0 method form.methods m results there few (subst (λ y. may_stand m y results ≡ true) (sym same) may))))
updates_member form n (suc k) (f ∷ families) family method m results at there few may =
    let n_same : suc n + k ≡ n + suc k = omega arith in
    subst (λ j. Contains (updates_from form n (f ∷ families)) (Update method results j)) n_same
    (Contains-append_right (updates_by n f 0 form.methods) (updates_from form (suc n) families) (Update method results (suc n + k))
    (updates_member form (suc n) k families family method m results at there few may))

pub update_asked : (form : Form) (families : List Family) (number : ℕ) (family : Family) (method : ℕ) (m : Method) (results : ℕ) →
    slice_get families number ≡ Some family → slice_get form.methods method ≡ Some m → results < 8 → may_stand m family results ≡ true →
    Contains (update_questions form families) (Update method results number)
update_asked form families number family method m results at there few may =
    subst (λ j. Contains (update_questions form families) (Update method results j)) (from_zero number)
    (updates_member form 0 number families family method m results at there few may)

clauses_member : (n k : ℕ) (ms : List Method) (m : Method) (clause : ℕ) → slice_get ms k ≡ Some m → 1 ≤ clause → clause ≤ clause_count m →
    Contains (clauses_from n ms) (Clause (n + k) clause)
clauses_member n k [] m clause at from to = absurd cc
clauses_member n zero (x ∷ ms) m clause at from to =
    let same : x ≡ m = inner at in
    let n_same : n ≡ n + 0 = omega arith in
    let short : clause ≤ clause_count x = subst (λ y. clause ≤ clause_count y) (sym same) to in
    subst (λ j. Contains (clauses_from n (x ∷ ms)) (Clause j clause)) n_same
    (Contains-append_left (map (λ c. Clause n c) (range_with_len 1 (clause_count x))) (clauses_from (suc n) ms) (Clause n clause)
    (in_map (λ c. Clause n c) (range_with_len 1 (clause_count x)) clause (range_member 1 (clause_count x) clause from (omega (arith, short)))))
clauses_member n (suc k) (x ∷ ms) m clause at from to =
    let n_same : suc n + k ≡ n + suc k = omega arith in
    subst (λ j. Contains (clauses_from n (x ∷ ms)) (Clause j clause)) n_same
    (Contains-append_right (map (λ c. Clause n c) (range_with_len 1 (clause_count x))) (clauses_from (suc n) ms) (Clause (suc n + k) clause)
    (clauses_member (suc n) k ms m clause at from to))

pub clause_asked : (form : Form) (method : ℕ) (m : Method) (clause : ℕ) → slice_get form.methods method ≡ Some m → 1 ≤ clause → clause ≤ clause_count m →
    Contains (clause_questions form) (Clause method clause)
clause_asked form method m clause at from to =
    subst (λ j. Contains (clause_questions form) (Clause j clause)) (from_zero method) (clauses_member 0 method form.methods m clause at from to)

-- what stands beside an item of one of two lists, and beside one of the other
pub beside : {X Y : Type 0} (P : X → Y → Type 0) (xs : List X) (ys : List Y) → AllZip P xs ys → (x : X) → Contains xs x → (y : Y) × Contains ys y × P x y
beside P [] ys all x has = absurd (no_member x has)
beside P (z ∷ xs) [] all x has = absurd all
beside {X} {Y} P (z ∷ xs) (y ∷ ys) all x has =
    ⊎_elim
    (λ (same : z ≡ x). (y, head_member y ys, subst (λ w. P w y) same all.0))
    (λ (later : Contains xs x). let rest = beside P xs ys all.1 x later in (rest.0, tail_member y ys rest.0 rest.1, rest.2))
    (which_member z xs x has)

pub opposite : {X Y : Type 0} (P : X → Y → Type 0) (xs : List X) (ys : List Y) → AllZip P xs ys → (y : Y) → Contains ys y → (x : X) × P x y
opposite P [] [] all y has = absurd (no_member y has)
opposite P [] (z ∷ ys) all y has = absurd all
opposite P (x ∷ xs) [] all y has = absurd all
opposite P (x ∷ xs) (z ∷ ys) all y has =
    ⊎_elim
    (λ (same : z ≡ y). (x, subst (P x) same all.0))
    (λ (later : Contains ys y). opposite P xs ys all.1 y later)
    (which_member z ys y has)
