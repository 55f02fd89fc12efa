-- A procedure of a checked client has fewer facts than a number of 64 bits can say, and the first procedures that have few.
use Rattle.std.proofs.Common.{◌≡◌, ℕ, zero, suc, ◌+◌, ◌*◌, ◌<◌, ◌≤◌, Bool, true, false, cond, ⊎_elim, List, [], ◌∷◌, All, length, map, sym, subst, arith}
use Rattle.std.proofs.Math.Nat.{eq-or-lt_of_le, le_trans, mul-le-mul_left, mul-le-mul_right}
use Rattle.std.proofs.lemmas.List.Sums.{count_by-le-length, sum_by-le}
use Rattle.std.specs.Prelude.{slice_get}
use Rattle.std.specs.Option.{option_map_or}
use Rattle.boolean_client.specs.Bounds.{FirstHaveFew, most_facts}
use Rattle.client_facts.specs.Counts.{count_facts, count_instances, count_names, is_of}
use Rattle.client_facts.specs.Held.{Held, setting}
use Rattle.client_facts.specs.Setting.{Setting, result_of, variables_of}
use Rattle.client_model.specs.Checked.{IsInRange, procedure_seen}
use Rattle.client_model.specs.declared.form.Procedure.{Procedure}
use Rattle.method_abstraction.specs.{HasExactEntries}

-- how many names of a class a procedure has at most
abbrev most_names : ℕ
most_names = 524292

-- how many facts of a family it has at most
abbrev most_instances : ℕ
most_instances = most_names * most_names * most_names

one_more : (b : Bool) → cond b 1 0 ≤ 1
one_more true = omega arith
one_more false = omega arith

module _ (g : Setting) (p : ℕ) where
  abbrev times : ℕ → ℕ → ℕ
  times count class = count * count_names g p class

  names_few : (class : ℕ) → length g.client.statics + length (variables_of g p) ≤ 524288 → count_names g p class ≤ most_names
  names_few class few =
      omega (
        arith,
        few,
        count_by-le-length (is_of class) g.client.statics,
        count_by-le-length (is_of class) (variables_of g p),
        one_more (is_of class (result_of g p)),
      )

  times_few : (few : (class : ℕ) → count_names g p class ≤ most_names) (count limit class : ℕ) → count ≤ limit → times count class ≤ limit * most_names
  times_few few count limit class so = le_trans (mul-le-mul_right (count_names g p class) so) (mul-le-mul_left limit (few class))

  instances_few : ((class : ℕ) → count_names g p class ≤ most_names) → (classes : List ℕ) → length classes ≤ 3 → count_instances g p classes ≤ most_instances
  instances_few few [] h = omega arith
  instances_few few (a ∷ []) h = le_trans (times_few few 1 1 a (omega arith)) (omega arith)
  instances_few few (a ∷ b ∷ []) h =
      le_trans (times_few few (times 1 a) most_names b (times_few few 1 1 a (omega arith))) (omega arith)
  instances_few few (a ∷ b ∷ c ∷ []) h =
      let pairs : times (times 1 a) b ≤ most_names * most_names = times_few few (times 1 a) most_names b (times_few few 1 1 a (omega arith)) in
      times_few few (times (times 1 a) b) (most_names * most_names) c pairs
  instances_few few (a ∷ b ∷ c ∷ d ∷ classes) h = absurd (omega arith)

-- a procedure's variables as they are seen, with as many names more
variables_few : (many limit : ℕ) (xs : List Procedure) (p : ℕ) → All (λ x. many + length x.variables ≤ limit) xs → p < length xs →
    many + length (option_map_or (λ x. x.variables) (slice_get (map procedure_seen xs) p) []) ≤ limit
variables_few many limit [] p all h = absurd (omega arith)
variables_few many limit (x ∷ xs) zero all h = all 0 x (omega arith)
variables_few many limit (x ∷ xs) (suc p) all h = variables_few many limit xs p (λ k d within. all (suc k) d (omega (arith, within))) (omega arith)

pub facts_few : (h : Held) (p : ℕ) → p < length h.client.procedures → IsInRange h.client → HasExactEntries h.form h.abstraction →
    count_facts (setting h) p < 18446744073709551616
facts_few h p there range exact =
    let names : (class : ℕ) → count_names (setting h) p class ≤ most_names =
    λ class. names_few (setting h) p class (variables_few (length h.client.statics) 524288 h.client.procedures p range.few_names there) in
    let sum : count_facts (setting h) p ≤ length h.abstraction.families * most_instances =
    sum_by-le (λ f. count_instances (setting h) p f.classes) most_instances h.abstraction.families
    (λ k d within. instances_few (setting h) p names _ (exact.fit k d within).few) in
    let families : length h.abstraction.families * most_instances ≤ 64 * most_instances = mul-le-mul_right most_instances exact.few in
    omega (arith, sum, families)

-- one procedure further
pub first_more : (g : Setting) (p next : ℕ) → next ≡ p + 1 → FirstHaveFew g p → count_facts g p ≤ most_facts → FirstHaveFew g next
first_more g p next step so few q before =
    ⊎_elim (λ same. subst (λ n. count_facts g n ≤ most_facts) (sym same) few) (λ less. so q less) (eq-or-lt_of_le (omega arith))
