-- Laws on entries: there is one for each question, and disjuncts that tell what the tree tells in each configuration that counts are exact.
use Rattle.std.specs.Prelude.{◌≡◌, ℕ, Bool, true, List, All, Option, Some, length, slice_get}
use Rattle.std.specs.List.{AllZip, list_any}
use Rattle.easl_model.specs.{Condition}
use Rattle.easl_model.specs.Form.{Form}
use Rattle.easl_model.specs.declared.form.Method.{Method}
use Rattle.easl_heap.specs.{Object}
use Rattle.access_paths.specs.{Equals, answer, before_call, by_objects, cube_holds, no_family, variables_of}
use Rattle.access_paths.specs.Trees.{Tree}
use Rattle.access_paths.specs.declared.term.Cube.{Cube}
use Rattle.access_paths.specs.declared.term.Family.{Family}
use Rattle.access_paths.specs.declared.term.Term.{Term}
use Rattle.case_model.specs.{HasTerms, HaveClasses, IsConfiguration, by_blocks, clauses_hold, terms_of_clauses, terms_of_cube, terms_of_tree}
use Rattle.question_model.specs.{TellsAfter, TellsFalse}
use Rattle.method_abstraction.specs.Asking.{clause_questions, update_questions}
use Rattle.method_abstraction.specs.Exact.{HasExactEntries, IsExactClause, IsExactUpdate, disjunct_holds}
use Rattle.method_abstraction.specs.declared.entry.Abstraction.{Abstraction}
use Rattle.method_abstraction.specs.declared.entry.Disjunct.{Disjunct}

-- the disjunct is true of a heap's objects where the cube is
abbrev pub SaysSame : List Family → Cube → Disjunct → Type 0
SaysSame families c d = (heap : List Object) (objects : List ℕ) → disjunct_holds families heap objects d ≡ cube_holds (by_objects heap objects) c.literals

-- whether one of the cubes is true
abbrev pub one_holds : Equals → List Cube → Bool
one_holds equal cubes = list_any (λ c. cube_holds equal c.literals) cubes

-- a tree and cubes over one term list, and the disjuncts that say what the cubes say
pub record AreOver (form : Form) (families : List Family) (variables : List (Option ℕ)) (ts : List Term) (classes : List ℕ) (tree : Tree)
    (cubes : List Cube) (ds : List Disjunct) : Type 0 where
  pub typed : HaveClasses form variables ts classes
  pub asked : HasTerms ts (terms_of_tree tree)
  pub over : All (λ c. HasTerms ts (terms_of_cube c.literals)) cubes
  pub same : AllZip (SaysSame families) cubes ds

-- it suffices that one of the cubes is true where the tree is, in each configuration in which all clauses of the method are true
abbrev pub UpdatesAreExact : Type 0
UpdatesAreExact = (form : Form) (families : List Family) (n : ℕ) (m : Method) (results : ℕ) (family : Family) (ts : List Term) (classes : List ℕ)
    (tree : Tree) (cubes : List Cube) (ds : List Disjunct) → slice_get form.methods n ≡ Some m
    → AreOver form families (variables_of m (before_call family results)) ts classes tree cubes ds
    → HasTerms ts (terms_of_clauses m) → TellsAfter form m family results tree
    → ((bs : List ℕ) → IsConfiguration ts classes bs → clauses_hold m (by_blocks ts bs) ≡ true
    → answer (by_blocks ts bs) tree ≡ one_holds (by_blocks ts bs) cubes)
    → IsExactUpdate form families n m results family ds

-- and for a clause in each configuration
abbrev pub ClausesAreExact : Type 0
ClausesAreExact = (form : Form) (families : List Family) (m : Method) (clause : Condition) (ts : List Term) (classes : List ℕ)
    (tree : Tree) (cubes : List Cube) (ds : List Disjunct) → AreOver form families (variables_of m no_family) ts classes tree cubes ds
    → TellsFalse form m clause tree
    → ((bs : List ℕ) → IsConfiguration ts classes bs → answer (by_blocks ts bs) tree ≡ one_holds (by_blocks ts bs) cubes)
    → IsExactClause form families m clause ds

-- exact entries are as many as the questions
abbrev pub OneEntryEach : Type 0
OneEntryEach = (form : Form) (a : Abstraction) → HasExactEntries form a
    → (length a.clauses ≡ length (clause_questions form)) × (length a.updates ≡ length (update_questions form a.families))
