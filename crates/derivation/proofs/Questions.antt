-- The questions that are asked name what is there.
use Rattle.std.proofs.Common.{◌≡◌, ℕ, zero, suc, ◌+◌, ◌-◌, ◌<◌, ◌≤◌, ◌/◌, ◌%◌, Bool, true, false, not, cond, ◌==◌, ◌&&◌, ◌||◌, List, [], ◌∷◌, All, Contains, Option, Some, None, if◌then◌else◌, length, map, slice_get, refl, ap, sym, subst, ◌∙◌, arith, ⊎_elim}
use Rattle.std.specs.List.{filter, range_with_len}
use Rattle.std.specs.Option.{option_map_or}
use Rattle.std.proofs.lemmas.Bool.{eqb-true}
use Rattle.std.proofs.lemmas.List.Elements.{Contains-append_cases}
use Rattle.std.proofs.lemmas.Option.{slice_get_within}
use Rattle.easl_model.specs.Form.{Form}
use Rattle.easl_model.specs.declared.form.Method.{Method}
use Rattle.access_paths.specs.{AreResults, Fits, put}
use Rattle.access_paths.specs.declared.term.Family.{Family}
use Rattle.access_paths.proofs.Members.{head_member, no_member, of_map, tail_member, which_member}
use Rattle.access_paths.proofs.Substituted.{all_members}
use Rattle.method_abstraction.specs.{clause_count, clause_questions, clauses_from, gives, may_stand, result_sets, updates_by}
use Rattle.method_abstraction.specs.declared.entry.Question.{Question}
use Rattle.method_abstraction.specs.declared.entry.Question.TheVariants.{Clause, Update}
use Rattle.derivation.specs.Rounds.{IsQuestion}
use Rattle.derivation.proofs.Replying.{stands}

in_range : (a n k : ℕ) → Contains (range_with_len a n) k → (a ≤ k) × (k < a + n)
in_range a zero k has = absurd (no_member k has)
in_range a (suc n) k has =
    ⊎_elim (λ (e : a ≡ k). (omega (arith, e), omega (arith, e)))
    (λ (h : Contains (range_with_len (a + 1) n) k). let r = in_range (a + 1) n k h in (omega (arith, r.0), omega (arith, r.1)))
    (which_member a (range_with_len (a + 1) n) k has)

pub of_filter : {X : Type 0} (p : X → Bool) (xs : List X) (x : X) → Contains (filter p xs) x → Contains xs x × (p x ≡ true)
of_filter p [] x has = absurd (no_member x has)
of_filter {X} p (y ∷ xs) x has = by (p y) refl (λ h. let r = of_filter p xs x h in (tail_member y xs x r.0, r.1)) has
  where
    by : (b : Bool) → p y ≡ b → (Contains (filter p xs) x → Contains (y ∷ xs) x × (p x ≡ true)) → Contains (cond b (y ∷ filter p xs) (filter p xs)) x
        → Contains (y ∷ xs) x × (p x ≡ true)
    by true e rest h =
        ⊎_elim (λ (same : y ≡ x). (subst (Contains (y ∷ xs)) same (head_member y xs), ap p (sym same) ∙ e)) rest (which_member y (filter p xs) x h)
    by false e rest h = rest h

few_clauses : (m : Method) → clause_count m ≤ length m.clauses
few_clauses m = by m.constructor
  where
    by : (b : Bool) → (if b then 0 else length m.clauses) ≤ length m.clauses
    by true = omega arith
    by false = omega arith

-- the methods from a number on
abbrev AreFrom : Form → ℕ → List Method → Type 0
AreFrom form n ms = (k : ℕ) (m : Method) → slice_get ms k ≡ Some m → slice_get form.methods (n + k) ≡ Some m

first_of : (form : Form) (n : ℕ) (m : Method) (ms : List Method) → AreFrom form n (m ∷ ms) → slice_get form.methods n ≡ Some m
first_of form n m ms are = let e : n + 0 ≡ n = omega arith in subst (λ k. slice_get form.methods k ≡ Some m) e (are 0 m refl)

rest_of : (form : Form) (n : ℕ) (m : Method) (ms : List Method) → AreFrom form n (m ∷ ms) → AreFrom form (suc n) ms
rest_of form n m ms are k x at = let e : n + suc k ≡ suc n + k = omega arith in subst (λ j. slice_get form.methods j ≡ Some x) e (are (suc k) x at)

whole_from : (form : Form) → AreFrom form 0 form.methods
whole_from form k m at = let e : k ≡ 0 + k = omega arith in subst (λ j. slice_get form.methods j ≡ Some m) e at

module _ (form : Form) (families : List Family) where
  clause_asked : (n : ℕ) (ms : List Method) → AreFrom form n ms → (q : Question) → Contains (clauses_from n ms) q → IsQuestion form families q
  clause_asked n [] are q has = absurd (no_member q has)
  clause_asked n (m ∷ ms) are q has =
      ⊎_elim
      (λ (h : Contains (map (λ k. Clause n k) (range_with_len 1 (clause_count m))) q).
      let of = of_map (λ k. Clause n k) (range_with_len 1 (clause_count m)) q h in
      let k = of.0 in
      let within = in_range 1 (clause_count m) k of.1 in
      let found = first_of form n m ms are in
      let clause = stands m.clauses (k - 1) (omega (arith, within.0, within.1, few_clauses m)) in
      subst (IsQuestion form families) of.2
      (slice_get_within form.methods n m found, (m, clause.0, record { found = found; some = omega (arith, within.0); at = clause.1 })))
      (λ (h : Contains (clauses_from (suc n) ms) q). clause_asked (suc n) ms (rest_of form n m ms are) q h)
      (Contains-append_cases (map (λ k. Clause n k) (range_with_len 1 (clause_count m))) (clauses_from (suc n) ms) q has)

  pub clauses_asked : All (IsQuestion form families) (clause_questions form)
  clauses_asked = all_members (IsQuestion form families) (clause_questions form) (clause_asked 0 form.methods (whole_from form))

-- the result is of the class of the family's variable
gives_is : (m : Method) (o : Option ℕ) → gives m o ≡ true → (class : ℕ) × (o ≡ Some class) × (m.result ≡ Some class)
gives_is m None h = absurd (cc)
gives_is m (Some class) h = by m.result refl h
  where
    by : (r : Option ℕ) → m.result ≡ r → option_map_or (λ result. result == class) r false ≡ true
        → (c : ℕ) × (Some class ≡ Some c) × (m.result ≡ Some c)
    by None e h = absurd (cc)
    by (Some result) e h = (class, refl, e ∙ ap Some (eqb-true result class h))

bit_gives : (b g : Bool) → (if b then true else false) ≡ true → (not b || g) ≡ true → g ≡ true
bit_gives true g h k = k
bit_gives false g h k = absurd (cc)

both : (a b : Bool) → (a && b) ≡ true → (a ≡ true) × (b ≡ true)
both true b h = (refl, h)
both false b h = absurd (cc)

are_results : (m : Method) (family : Family) (results : ℕ) → results < 8 → may_stand m family results ≡ true → AreResults m family results
are_results m family results few so =
    let at = λ (n : ℕ). gives m (slice_get family.classes n) in
    let first = both (not (results % 2 == 1) || at 0) ((not (results / 2 % 2 == 1) || at 1) && ((not (results / 2 / 2 % 2 == 1) || at 2) && true)) so in
    let second = both (not (results / 2 % 2 == 1) || at 1) ((not (results / 2 / 2 % 2 == 1) || at 2) && true) first.1 in
    let third = both (not (results / 2 / 2 % 2 == 1) || at 2) true second.1 in
    record { few = few; each = each first.0 second.0 third.0 }
  where
    one : (n r : ℕ) → (not (r % 2 == 1) || gives m (slice_get family.classes n)) ≡ true → Some (if r % 2 == 1 then true else false) ≡ Some true
        → (class : ℕ) × (slice_get family.classes n ≡ Some class) × (m.result ≡ Some class)
    one n r k h =
        let set : (if r % 2 == 1 then true else false) ≡ true = cc in
        gives_is m (slice_get family.classes n) (bit_gives (r % 2 == 1) (gives m (slice_get family.classes n)) set k)

    each : (not (results % 2 == 1) || gives m (slice_get family.classes 0)) ≡ true → (not (results / 2 % 2 == 1) || gives m (slice_get family.classes 1)) ≡ true
        → (not (results / 2 / 2 % 2 == 1) || gives m (slice_get family.classes 2)) ≡ true
        → (n : ℕ) → slice_get (put results true (false ∷ false ∷ false ∷ [])) n ≡ Some true
        → (class : ℕ) × (slice_get family.classes n ≡ Some class) × (m.result ≡ Some class)
    each x y z zero h = one 0 results x h
    each x y z (suc zero) h = one 1 (results / 2) y h
    each x y z (suc (suc zero)) h = one 2 (results / 2 / 2) z h
    each x y z (suc (suc (suc n))) h = absurd (cc)

module _ (form : Form) (families : List Family) (number : ℕ) (family : Family) (at : slice_get families number ≡ Some family) (fits : Fits form family) where
  update_asked : (n : ℕ) (ms : List Method) → AreFrom form n ms → (q : Question) → Contains (updates_by number family n ms) q → IsQuestion form families q
  update_asked n [] are q has = absurd (no_member q has)
  update_asked n (m ∷ ms) are q has =
      ⊎_elim
      (λ (h : Contains (map (λ results. Update n results number) (result_sets m family)) q).
      let of = of_map (λ results. Update n results number) (result_sets m family) q h in
      let passed = of_filter (may_stand m family) (range_with_len 0 8) of.0 of.1 in
      let within = in_range 0 8 of.0 passed.0 in
      let found = first_of form n m ms are in
      let results = are_results m family of.0 (omega (arith, within.1)) passed.1 in
      subst (IsQuestion form families) of.2 (
        slice_get_within form.methods n m found,
        (
          family,
          at,
          fits,
          λ x x_at. let same_some : Some m ≡ Some x = sym found ∙ x_at in let same : m ≡ x = cc in subst (λ y. AreResults y family of.0) same results,
        ),
      ))
      (λ (h : Contains (updates_by number family (suc n) ms) q). update_asked (suc n) ms (rest_of form n m ms are) q h)
      (Contains-append_cases (map (λ results. Update n results number) (result_sets m family)) (updates_by number family (suc n) ms) q has)

  pub updates_asked : All (IsQuestion form families) (updates_by number family 0 form.methods)
  updates_asked = all_members (IsQuestion form families) (updates_by number family 0 form.methods) (update_asked 0 form.methods (whole_from form))
