-- The law on bodies: the tree's answer by a full heap's own equalities is the truth of the cube after the body, and of
-- a clause's question that the clause is false.
use Rattle.std.specs.Prelude.{◌≡◌, ℕ, not, List, Option}
use Rattle.easl_model.specs.{Condition}
use Rattle.easl_model.specs.Form.{Form}
use Rattle.easl_model.specs.declared.form.Method.{Method}
use Rattle.easl_heap.specs.{IsFull, Object, called, holds}
use Rattle.access_paths.specs.{AreObjects, Fits, answer, arguments_in, before_call, by_objects, cube_holds, no_family, put, variables_of}
use Rattle.access_paths.specs.Trees.{Tree}
use Rattle.access_paths.specs.declared.term.Family.{Family}
use Rattle.question_model.specs.Questions.{fails, update}
use Rattle.question_model.specs.Split.{IsTree}

-- in each full heap the tree's answer is the truth of the cube after the body, the result's object standing at the
-- result positions
abbrev pub TellsAfter : Form → Method → Family → ℕ → Tree → Type 0
TellsAfter form m family results tree = (heap : List Object) (objects : List ℕ) → IsFull form heap
    → AreObjects heap (variables_of m (before_call family results)) objects
    → let left = called form m (arguments_in m objects) heap
    in answer (by_objects heap objects) tree
    ≡ cube_holds (by_objects left.heap (put results left.result objects)) family.cube.literals

-- and that of a clause's question is that the clause is false
abbrev pub TellsFalse : Form → Method → Condition → Tree → Type 0
TellsFalse form m c tree = (heap : List Object) (objects : List ℕ) → IsFull form heap
    → AreObjects heap (variables_of m no_family) objects
    → answer (by_objects heap objects) tree ≡ not (holds heap (arguments_in m objects) c)

abbrev pub UpdateLaw : Type 0
UpdateLaw = (form : Form) (most : Option ℕ) (m : Method) (family : Family) (results : ℕ) (tree : Tree) → Fits form family
    → IsTree (λ answers. update form most answers m family results) tree → TellsAfter form m family results tree

abbrev pub ClauseLaw : Type 0
ClauseLaw = (form : Form) (most : Option ℕ) (m : Method) (c : Condition) (tree : Tree)
    → IsTree (λ answers. fails form most answers m c) tree → TellsFalse form m c tree
