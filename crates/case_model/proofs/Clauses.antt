-- What the terms of a method's clauses lead to.
use Rattle.std.proofs.Common.{◌≡◌, ℕ, zero, suc, ◌+◌, ◌<◌, Bool, cond, List, [], ◌∷◌, ◌++◌, length, map, flat_map, Contains, Option, Some, None, true, false, slice_index_or, arith, refl, ap, subst, ◌∙◌, ⊎_elim}
use Rattle.std.specs.Prelude.{slice_get}
use Rattle.std.proofs.lemmas.List.Elements.{Contains-append_cases}
use Rattle.easl_model.specs.{AreSides, AreTypedConditions, Condition, Gives, IsChecked, IsTypedCondition, IsTypedMethod, Standing, condition_of, conditions}
use Rattle.easl_model.specs.{standing_of}
use Rattle.easl_model.specs.Conditions.{Conditions, Same, Differ, All, Any, none, ◌▸◌}
use Rattle.easl_model.specs.Form.{Form}
use Rattle.easl_model.specs.declared.form.Method.{Method}
use Rattle.easl_model.specs.declared.form.Reach.{Reach}
use Rattle.easl_model.specs.declared.form.Test.{Test}
use Rattle.easl_model.proofs.CheckedForms.{checked_typed}
use Rattle.easl_model.proofs.Items.{all_at}
use Rattle.easl_heap.proofs.Holding.{slot_of}
use Rattle.access_paths.specs.{IsTermOf, term}
use Rattle.access_paths.specs.declared.term.Term.{Term}
use Rattle.case_model.specs.{ClausesHaveClasses, term_of, terms_of_condition, terms_of_conditions}

behind_three : (xs ys : List (Option ℕ)) (k i : ℕ) → length xs ≡ 3 → i ≡ 3 + k → slice_get (xs ++ ys) i ≡ slice_get ys k
behind_three [] ys k i three e = absurd (omega (arith, three))
behind_three (x ∷ []) ys k i three e = absurd (omega (arith, three))
behind_three (x ∷ y ∷ []) ys k i three e = absurd (omega (arith, three))
behind_three (x ∷ y ∷ z ∷ []) ys k i three e = let third : i ≡ suc (suc (suc k)) = omega (arith, e) in ap (slice_get (x ∷ y ∷ z ∷ ys)) third
behind_three (x ∷ y ∷ z ∷ w ∷ xs) ys k i three e = absurd (omega (arith, three))

-- Where conditions are typed before a body, and three more variables stand before its slots.
module _ (form : Form) (s : Standing) (xs : List (Option ℕ)) (three : length xs ≡ 3) where
  abbrev LeadsSomewhere : Term → Type 0
  LeadsSomewhere t = (end : ℕ) × IsTermOf form (xs ++ s.slots) t end

  given : (r : Reach) (class : ℕ) → Gives form s r class → LeadsSomewhere (term_of 3 r)
  given r class gives =
      let slot = slot_of form s r class gives.of in
      (class, record { start = slot.0; variable = behind_three xs s.slots r.slot (3 + r.slot) three refl ∙ slot.1; leads = slot.2 })

  sides : (left right : Reach) → AreSides form s left right → (t : Term) → Contains (term_of 3 left ∷ term_of 3 right ∷ []) t → LeadsSomewhere t
  sides left right are t has = by has.0 has.1 has.2
    where
      by : (k : ℕ) → k < 2 → slice_index_or (term_of 3 left ∷ term_of 3 right ∷ []) k t ≡ t → LeadsSomewhere t
      by zero h e = subst LeadsSomewhere e (given left are.class are.left_gives)
      by (suc zero) h e = subst LeadsSomewhere e (given right are.class are.right_gives)
      by (suc (suc k)) h e = absurd (omega arith)

  mutual
    of_condition : (c : Condition) → IsTypedCondition form s c → (t : Term) → Contains (terms_of_condition 3 c) t → LeadsSomewhere t
    of_condition (Same left right) are t has = sides left right are t has
    of_condition (Differ left right) are t has = sides left right are t has
    of_condition (All cs) are t has = of_conditions cs are t has
    of_condition (Any cs) are t has = of_conditions cs are t has

    of_conditions : (cs : Conditions) → AreTypedConditions form s cs → (t : Term) → Contains (terms_of_conditions 3 cs) t → LeadsSomewhere t
    of_conditions none are t has = absurd (omega (arith, has.1))
    of_conditions (c ▸ cs) are t has =
        ⊎_elim
        (λ (h : Contains (terms_of_condition 3 c) t). of_condition c are.0 t h)
        (λ (h : Contains (terms_of_conditions 3 cs) t). of_conditions cs are.1 t h)
        (Contains-append_cases (terms_of_condition 3 c) (terms_of_conditions 3 cs) t has)

  of_tests : (tests : List Test) → AreTypedConditions form s (conditions (map condition_of tests)) → (t : Term)
      → Contains (flat_map (terms_of_condition 3) (map condition_of tests)) t → LeadsSomewhere t
  of_tests [] are t has = absurd (omega (arith, has.1))
  of_tests (test ∷ tests) are t has =
      ⊎_elim
      (λ (h : Contains (terms_of_condition 3 (condition_of test)) t). of_condition (condition_of test) are.0 t h)
      (λ (h : Contains (flat_map (terms_of_condition 3) (map condition_of tests)) t). of_tests tests are.1 t h)
      (Contains-append_cases (terms_of_condition 3 (condition_of test)) (flat_map (terms_of_condition 3) (map condition_of tests)) t has)

pub clauses_have_classes : ClausesHaveClasses
clauses_have_classes form n m xs checked at three = by m.constructor
  where
    typed : AreTypedConditions form (standing_of form m) (conditions (map condition_of m.clauses))
    typed = (all_at (IsTypedMethod form) form.methods n m (checked_typed form checked).methods at).clauses

    by : (k : Bool) → (t : Term) → Contains (flat_map (terms_of_condition (cond k 4 3)) (cond k [] (map condition_of m.clauses))) t
        → (class : ℕ) × IsTermOf form (xs ++ (cond k None (Some m.class) ∷ m.params)) t class
    by true t has = absurd (omega (arith, has.1))
    by false t has = of_tests form (standing_of form m) xs three m.clauses typed t has
