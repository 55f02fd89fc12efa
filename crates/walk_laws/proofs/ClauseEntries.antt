-- The entries that answer the clause questions on a method: one for each of its clauses, and no others.
use Rattle.std.proofs.Common.{◌≡◌, ◌∙◌, ⊎_elim, ℕ, zero, suc, ◌+◌, ◌-◌, ◌≤◌, ◌<◌, All, List, [], ◌∷◌, Contains, map, ap, arith, refl, subst, sym}
use Rattle.std.specs.Prelude.{Some, slice_get}
use Rattle.std.specs.List.{AllZip, range_with_len}
use Rattle.std.proofs.lemmas.List.Elements.{Contains-append_cases}
use Rattle.access_paths.proofs.Members.{head_member, no_member, of_map, tail_member, which_member}
use Rattle.access_paths.specs.{no_family, variables_of}
use Rattle.access_paths.specs.declared.term.Family.{Family}
use Rattle.easl_model.specs.{condition_of}
use Rattle.easl_model.specs.Form.{Form}
use Rattle.easl_model.specs.declared.form.Method.{Method}
use Rattle.easl_model.specs.declared.form.Test.{Test}
use Rattle.method_abstraction.specs.{HasExactEntries, IsClauseEntry, IsDisjunctOf, IsExactClause, clause_count, clause_questions, clauses_from}
use Rattle.method_abstraction.specs.declared.entry.Abstraction.{Abstraction}
use Rattle.method_abstraction.specs.declared.entry.ClauseFacts.{ClauseFacts}
use Rattle.method_abstraction.specs.declared.entry.Question.{Question}
use Rattle.method_abstraction.specs.declared.entry.Question.TheVariants.{Clause, Update}
use Rattle.walk_laws.proofs.Asked.{beside, clause_asked}
use Rattle.walk_laws.proofs.Objects.{inner}

of_range : (a n k : ℕ) → Contains (range_with_len a n) k → (a ≤ k) × (k < a + n)
of_range a zero k has = absurd (no_member k has)
of_range a (suc n) k has =
    ⊎_elim
    (λ (here : a ≡ k). (omega (arith, here), omega (arith, here)))
    (λ (later : Contains (range_with_len (a + 1) n) k). let r = of_range (a + 1) n k later in (omega (arith, r.0), omega (arith, r.1)))
    (which_member a (range_with_len (a + 1) n) k has)

-- the method has a clause of this number
record HasClause (ms : List Method) (method clause : ℕ) : Type 0 where
  of : Method
  there : slice_get ms method ≡ Some of
  some : 1 ≤ clause
  within : clause ≤ clause_count of

abbrev method_in : Question → ℕ
method_in (Clause method clause) = method
method_in (Update method results family) = method

abbrev clause_in : Question → ℕ
clause_in (Clause method clause) = clause
clause_in (Update method results family) = 0

-- nothing else is asked about, from a method on, its number counted from that
abbrev IsAskedFrom : ℕ → List Method → Question → Type 0
IsAskedFrom n ms q = (k : ℕ) × (method_in q ≡ n + k) × HasClause ms k (clause_in q)

of_asked : (n : ℕ) (ms : List Method) (q : Question) → Contains (clauses_from n ms) q → IsAskedFrom n ms q
of_asked n [] q has = absurd (no_member q has)
of_asked n (m ∷ ms) q has =
    ⊎_elim
    (λ (here : Contains (map (λ c. Clause n c) (range_with_len 1 (clause_count m))) q).
    let found = of_map (λ c. Clause n c) (range_with_len 1 (clause_count m)) q here in
    let within = of_range 1 (clause_count m) found.0 found.1 in
    subst (IsAskedFrom n (m ∷ ms)) found.2 (0, omega arith, record { of = m; there = refl; some = within.0; within = omega (arith, within.1) }))
    (λ (later : Contains (clauses_from (suc n) ms) q).
    let found = of_asked (suc n) ms q later in
    (suc found.0, omega (arith, found.1), record { of = found.2.of; there = found.2.there; some = found.2.some; within = found.2.within }))
    (Contains-append_cases (map (λ c. Clause n c) (range_with_len 1 (clause_count m))) (clauses_from (suc n) ms) q has)

-- what stands before an item of the second list
before : {X Y : Type 0} (P : X → Y → Type 0) (xs : List X) (ys : List Y) → AllZip P xs ys → (y : Y) → Contains ys y → (x : X) × Contains xs x × P x y
before P [] [] all y has = absurd (no_member y has)
before P [] (z ∷ ys) all y has = absurd all
before P (x ∷ xs) [] all y has = absurd all
before P (x ∷ xs) (z ∷ ys) all y has =
    ⊎_elim
    (λ (here : z ≡ y). (x, head_member x xs, subst (P x) here all.0))
    (λ (later : Contains ys y). let rest = before P xs ys all.1 y later in (rest.0, tail_member x xs rest.0 rest.1, rest.2))
    (which_member z ys y has)

-- an entry answers the question on the clause of the method
pub record IsAnswer (form : Form) (families : List Family) (m : Method) (clause : ℕ) (e : ClauseFacts) : Type 0 where
  pub some : 1 ≤ clause
  pub within : clause ≤ clause_count m
  pub test : Test
  pub at : slice_get m.clauses (clause - 1) ≡ Some test
  pub names : All (IsDisjunctOf families (variables_of m no_family)) e.disjuncts
  pub exact : IsExactClause form families m (condition_of test) e.disjuncts

answer_is : (form : Form) (families : List Family) (q : Question) (e : ClauseFacts) → IsClauseEntry form families q e → (m : Method) →
    slice_get form.methods e.method ≡ Some m → 1 ≤ e.clause → e.clause ≤ clause_count m → IsAnswer form families m e.clause e
answer_is form families q e entry m there some within =
    let same : entry.of ≡ m = inner (sym entry.found ∙ there) in
    record {
      some = some;
      within = within;
      test = entry.test;
      at = subst (λ x. slice_get x.clauses (e.clause - 1) ≡ Some entry.test) same entry.at;
      names = subst (λ x. All (IsDisjunctOf families (variables_of x no_family)) e.disjuncts) same entry.names;
      exact = subst (λ x. IsExactClause form families x (condition_of entry.test) e.disjuncts) same entry.exact;
    }

module _ (form : Form) (a : Abstraction) (exact : HasExactEntries form a) (method : ℕ) (m : Method) (there : slice_get form.methods method ≡ Some m) where
  -- each clause has an entry
  pub entry_for : (clause : ℕ) → 1 ≤ clause → clause ≤ clause_count m →
      (e : ClauseFacts) × Contains a.clauses e × (e.method ≡ method) × (e.clause ≡ clause) × IsAnswer form a.families m clause e
  entry_for clause some within =
      let asked : Contains (clause_questions form) (Clause method clause) = clause_asked form method m clause there some within in
      let found = beside (IsClauseEntry form a.families) (clause_questions form) a.clauses exact.clauses (Clause method clause) asked in
      let e : ClauseFacts = found.0 in
      let entry : IsClauseEntry form a.families (Clause method clause) e = found.2 in
      let of_method : e.method ≡ method = sym (ap method_in entry.asked) in
      let of_clause : e.clause ≡ clause = sym (ap clause_in entry.asked) in
      let there_too : slice_get form.methods e.method ≡ Some m = subst (λ n. slice_get form.methods n ≡ Some m) (sym of_method) there in (
        e,
        found.1,
        of_method,
        of_clause,
        subst (λ c. IsAnswer form a.families m c e) of_clause
            (answer_is form a.families (Clause method clause) e entry m there_too (omega (arith, some, of_clause)) (omega (arith, within, of_clause))),
      )

  -- each entry is of one of its clauses
  pub entry_of : (e : ClauseFacts) → Contains a.clauses e → e.method ≡ method → IsAnswer form a.families m e.clause e
  entry_of e has of_method =
      let found = before (IsClauseEntry form a.families) (clause_questions form) a.clauses exact.clauses e has in
      let q : Question = found.0 in
      let entry : IsClauseEntry form a.families q e = found.2 in
      let asked : IsAskedFrom 0 form.methods (Clause e.method e.clause) = subst (IsAskedFrom 0 form.methods) entry.asked (of_asked 0 form.methods q found.1) in
      let number : e.method ≡ 0 + asked.0 = asked.1 in
      let number_is : e.method ≡ asked.0 = omega (arith, number) in
      let there_too : slice_get form.methods e.method ≡ Some m = subst (λ n. slice_get form.methods n ≡ Some m) (sym of_method) there in
      let same : asked.2.of ≡ m = inner (sym asked.2.there ∙ ap (slice_get form.methods) (sym number_is) ∙ there_too) in
      answer_is form a.families q e entry m there_too asked.2.some (subst (λ x. e.clause ≤ clause_count x) same asked.2.within)
