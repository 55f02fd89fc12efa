-- Exact entries: what they say holds in every full heap.
use Rattle.std.specs.Prelude.{◌≡◌, ℕ, ◌-◌, ◌≤◌, Bool, true, false, not, List, All, length, map, Option, Some, None, slice_get, slice_index}
use Rattle.std.specs.List.{AllZip, list_any}
use Rattle.std.specs.Option.{option_map_or}
use Rattle.easl_model.specs.{Condition, condition_of}
use Rattle.easl_model.specs.Form.{Form}
use Rattle.easl_model.specs.declared.form.Method.{Method}
use Rattle.easl_model.specs.declared.form.Test.{Test}
use Rattle.easl_heap.specs.{IsFull, Object, body, holds, requires_of}
use Rattle.access_paths.specs.{AreObjects, Fits, arguments_in, before_call, by_objects, cube_holds, no_family, put, variables_of}
use Rattle.access_paths.specs.declared.term.Family.{Family}
use Rattle.method_abstraction.specs.Asking.{clause_questions, update_questions}
use Rattle.method_abstraction.specs.declared.entry.Abstraction.{Abstraction}
use Rattle.method_abstraction.specs.declared.entry.ClauseFacts.{ClauseFacts}
use Rattle.method_abstraction.specs.declared.entry.Disjunct.{Disjunct}
use Rattle.method_abstraction.specs.declared.entry.Disjunct.TheVariants.{Always, Of}
use Rattle.method_abstraction.specs.declared.entry.Question.{Question}
use Rattle.method_abstraction.specs.declared.entry.Question.TheVariants as question
use Rattle.method_abstraction.specs.declared.entry.Update.{Update}

-- the family with the objects of these variables for its own
abbrev pub disjunct_holds : List Family → List Object → List ℕ → Disjunct → Bool
disjunct_holds families heap objects Always = true
disjunct_holds families heap objects (Of number vars) =
    option_map_or (λ family. cube_holds (by_objects heap (map (λ v. slice_index objects v.0) vars)) family.cube.literals) (slice_get families number) false

-- For each full heap and objects in which the method's clauses are true, the family is true after the body, with the
-- result at its positions, exactly where a disjunct is true before.
abbrev pub IsExactUpdate : Form → List Family → ℕ → Method → ℕ → Family → List Disjunct → Type 0
IsExactUpdate form families method m results family ds =
    (heap : List Object) (objects : List ℕ) → IsFull form heap → AreObjects heap (variables_of m (before_call family results)) objects
    → requires_of heap form method (arguments_in m objects) ≡ None
    → (let after = body form method (arguments_in m objects) heap in
    cube_holds (by_objects after.heap (put results after.result objects)) family.cube.literals)
    ≡ list_any (disjunct_holds families heap objects) ds

-- in each full heap the clause is false exactly where a disjunct is true
abbrev pub IsExactClause : Form → List Family → Method → Condition → List Disjunct → Type 0
IsExactClause form families m clause ds =
    (heap : List Object) (objects : List ℕ) → IsFull form heap → AreObjects heap (variables_of m no_family) objects
    → not (holds heap (arguments_in m objects) clause) ≡ list_any (disjunct_holds families heap objects) ds

-- the names of a disjunct fit: as many as its family has classes, each a variable that has an object, of that class
abbrev pub IsDisjunctOf : List Family → List (Option ℕ) → Disjunct → Type 0
IsDisjunctOf families variables Always = Unit {0}
IsDisjunctOf families variables (Of number vars) =
    (family : Family) × (slice_get families number ≡ Some family)
    × AllZip (λ v class. slice_get variables v.0 ≡ Some (Some class)) vars family.classes

pub record IsClauseEntry (form : Form) (families : List Family) (q : Question) (e : ClauseFacts) : Type 0 where
  pub asked : q ≡ question.Clause e.method e.clause
  pub of : Method
  pub found : slice_get form.methods e.method ≡ Some of
  pub test : Test
  pub at : slice_get of.clauses (e.clause - 1) ≡ Some test
  pub names : All (IsDisjunctOf families (variables_of of no_family)) e.disjuncts
  pub exact : IsExactClause form families of (condition_of test) e.disjuncts

pub record IsUpdateEntry (form : Form) (families : List Family) (q : Question) (e : Update) : Type 0 where
  pub asked : q ≡ question.Update e.method e.results e.family
  pub of : Method
  pub found : slice_get form.methods e.method ≡ Some of
  pub over : Family
  pub numbered : slice_get families e.family ≡ Some over
  pub names : All (IsDisjunctOf families (variables_of of (before_call over e.results))) e.disjuncts
  pub exact : IsExactUpdate form families e.method of e.results over e.disjuncts

-- An entry for each question in the order of asking, each exact.
pub record HasExactEntries (form : Form) (a : Abstraction) : Type 0 where
  pub few : length a.families ≤ 64
  pub fit : All (Fits form) a.families
  pub clauses : AllZip (IsClauseEntry form a.families) (clause_questions form) a.clauses
  pub updates : AllZip (IsUpdateEntry form a.families) (update_questions form a.families) a.updates
