-- The configuration of a heap.
use Rattle.std.specs.Prelude.{◌≡◌, ℕ, cond, nat_eq, is_none, List, [], ◌∷◌, ◌++◌, map, Option}
use Rattle.std.specs.List.{list_any, position_or_len}
use Rattle.easl_model.specs.{Condition}
use Rattle.easl_model.specs.Form.{Form}
use Rattle.easl_model.specs.declared.form.Method.{Method}
use Rattle.easl_heap.specs.{IsFull, Object, first_failing, holds}
use Rattle.access_paths.specs.{AreObjects, answer, arguments_in, by_objects, cube_holds, object_of}
use Rattle.access_paths.specs.Trees.{Tree}
use Rattle.access_paths.specs.declared.term.Literal.{Literal}
use Rattle.access_paths.specs.declared.term.Term.{Term}
use Rattle.case_model.specs.Care.{clauses_hold, condition_holds}
use Rattle.case_model.specs.Configurations.{IsConfiguration, by_blocks}
use Rattle.case_model.specs.TermLists.{HasTerms, HaveClasses, first_variable, terms_of_clauses, terms_of_condition, terms_of_cube, terms_of_tree}

-- an object met after these; each is listed once
abbrev pub meet : ℕ → List ℕ → List ℕ
meet o met = cond (list_any (nat_eq o) met) met (met ++ o ∷ [])

-- objects numbered in the order in which they are first met, where these were met before
abbrev pub numbers : List ℕ → List ℕ → List ℕ
numbers met [] = []
numbers met (o ∷ os) = position_or_len (nat_eq o) met ∷ numbers (meet o met) os

-- terms that lead to one object are in one block
abbrev pub case_of : List Object → List ℕ → List Term → List ℕ
case_of heap objects ts = numbers [] (map (object_of heap objects) ts)

-- a full heap with an object of its class for each variable, and a list of terms of these classes
pub record IsState (form : Form) (variables : List (Option ℕ)) (ts : List Term) (classes : List ℕ) (heap : List Object) (objects : List ℕ) : Type 0 where
  pub full : IsFull form heap
  pub given : AreObjects heap variables objects
  pub typed : HaveClasses form variables ts classes

-- The heap's configuration is one, and what asks for terms of the list alone has there the truth that it has in the heap.
pub record HasCase (ts : List Term) (classes : List ℕ) (heap : List Object) (objects : List ℕ) : Type 0 where
  pub is : IsConfiguration ts classes (case_of heap objects ts)
  pub trees : (tree : Tree) → HasTerms ts (terms_of_tree tree) → answer (by_blocks ts (case_of heap objects ts)) tree ≡ answer (by_objects heap objects) tree
  pub cubes : (ls : List Literal) → HasTerms ts (terms_of_cube ls)
      → cube_holds (by_blocks ts (case_of heap objects ts)) ls ≡ cube_holds (by_objects heap objects) ls
  pub conditions : (m : Method) (c : Condition) → HasTerms ts (terms_of_condition (first_variable m) c)
      → condition_holds (first_variable m) (by_blocks ts (case_of heap objects ts)) c ≡ holds heap (arguments_in m objects) c
  pub clauses : (m : Method) → HasTerms ts (terms_of_clauses m)
      → clauses_hold m (by_blocks ts (case_of heap objects ts)) ≡ is_none (first_failing m heap (arguments_in m objects))

-- each full heap has its configuration
abbrev pub HeapsHaveCases : Type 0
HeapsHaveCases = (form : Form) (variables : List (Option ℕ)) (ts : List Term) (classes : List ℕ) (heap : List Object) (objects : List ℕ)
    → IsState form variables ts classes heap objects → HasCase ts classes heap objects
