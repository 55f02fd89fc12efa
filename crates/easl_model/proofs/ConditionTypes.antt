-- Comparisons and conditions without a fault are typed.
use Rattle.std.proofs.Common.{◌≡◌, [], map, ap, sym, subst, ◌∙◌}
use Rattle.easl_model.specs.{AreSides, AreTypedConditions, Clause, Gives, IsTypedCondition, condition_of, conditions, faults_of_clause, faults_of_clauses}
use Rattle.easl_model.specs.{faults_of_object, faults_of_sides, form_of, reach_of, sides_differ, target_of, test_of, tests_of}
use Rattle.easl_model.specs.Clauses.{Clauses}
use Rattle.easl_model.specs.Clauses as clause
use Rattle.easl_model.specs.declared.scope.Context.{Context}
use Rattle.easl_model.specs.declared.scope.Target.TheVariants.{Object}
use Rattle.easl_model.specs.declared.tree.Path.{Path}
use Rattle.easl_model.specs.declared.tree.Spec.{Spec}
use Rattle.easl_model.proofs.Folds.{all_test, any_test, differ_test, same_test}
use Rattle.easl_model.proofs.None.{none_of_both, none_of_three}
use Rattle.easl_model.proofs.Reaching.{standing_in}
use Rattle.easl_model.proofs.Ready.{object_given}
use Rattle.easl_model.proofs.ValueTypes.{same_number}

sides_typed : (spec : Spec) (c : Context) (left right : Path) → faults_of_sides spec c left right ≡ []
    → AreSides (form_of spec) (standing_in c) (reach_of spec c left) (reach_of spec c right)
sides_typed spec c left right free =
    let parts = none_of_three (faults_of_object spec c left) (faults_of_object spec c right) (sides_differ right.place (target_of spec c left) (target_of spec c right)) free in
    let l = object_given spec c left parts.0 in
    let r = object_given spec c right parts.1 in
    let differ : sides_differ right.place (Object l.0) (Object r.0) ≡ [] = ap (λ t. sides_differ right.place t (Object r.0)) (sym l.1) ∙ ap (sides_differ right.place (target_of spec c left)) (sym r.1) ∙ parts.2 in
    record { class = r.0; left_gives = subst (λ k. Gives (form_of spec) (standing_in c) (reach_of spec c left) k) (same_number l.0 r.0 right.place differ) l.2; right_gives = r.2 }

mutual
  pub clause_typed : (spec : Spec) (c : Context) (x : Clause) → faults_of_clause spec c x ≡ []
      → IsTypedCondition (form_of spec) (standing_in c) (condition_of (test_of spec c x))
  clause_typed spec c (clause.Same left right) free = subst (IsTypedCondition (form_of spec) (standing_in c)) (sym (same_test (reach_of spec c left) (reach_of spec c right))) (sides_typed spec c left right free)
  clause_typed spec c (clause.Differ left right) free = subst (IsTypedCondition (form_of spec) (standing_in c)) (sym (differ_test (reach_of spec c left) (reach_of spec c right))) (sides_typed spec c left right free)
  clause_typed spec c (clause.All cs) free = subst (IsTypedCondition (form_of spec) (standing_in c)) (sym (all_test (tests_of spec c cs))) (clauses_typed spec c cs free)
  clause_typed spec c (clause.Any cs) free = subst (IsTypedCondition (form_of spec) (standing_in c)) (sym (any_test (tests_of spec c cs))) (clauses_typed spec c cs free)

  pub clauses_typed : (spec : Spec) (c : Context) (xs : Clauses) → faults_of_clauses spec c xs ≡ []
      → AreTypedConditions (form_of spec) (standing_in c) (conditions (map condition_of (tests_of spec c xs)))
  clauses_typed spec c clause.none free = tt
  clauses_typed spec c (clause.more x xs) free =
      let parts = none_of_both (faults_of_clause spec c x) (faults_of_clauses spec c xs) free in (clause_typed spec c x parts.0, clauses_typed spec c xs parts.1)
