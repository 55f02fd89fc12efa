-- The trees of questions, as the code grows them.
use Rattle.std.specs.Prelude.{◌≡◌, ℕ, ◌-◌, ◌<◌, Bool, List, [], Some, Result, Ok, Err, slice_get}
use Rattle.easl_model.specs.{Condition}
use Rattle.easl_model.specs.Form.{Form}
use Rattle.easl_model.specs.declared.form.Method.{Method}
use Rattle.easl_model.specs.declared.form.Test.{Test}
use Rattle.access_paths.specs.{tree_of}
use Rattle.access_paths.specs.declared.term.Family.{Family}
use Rattle.access_paths.specs.declared.tree.SplitFault.{SplitFault}
use Rattle.access_paths.specs.declared.tree.SplitFault.TheVariants.{Path, Memory}
use Rattle.access_paths.specs.declared.tree.Tree.{Tree}
use Rattle.question_model.specs.{IsLongBehind, IsTreeBehind, fails, update}
use Rattle.question_model.specs.Stage.{Stage}
use Rattle.question_model.specs.declared.answer.Answer.{Answer}
use Rattle.weakest_pre.specs.Running.{most}

-- the tree of the question behind these answers; none, where a term of 7 fields arises there; want of memory is free
abbrev pub Grows : (List Answer → Stage Bool) → List Answer → Result Tree SplitFault → Type 0
Grows question answers (Ok tree) = IsTreeBehind question answers (tree_of tree)
Grows question answers (Err Path) = IsLongBehind question answers
Grows question answers (Err Memory) = Unit {0}

-- the tree of an update question, or a term of 7 fields arises on some branch; want of memory is free
abbrev pub IsSplit : Form → Method → Family → ℕ → Result Tree SplitFault → Type 0
IsSplit form m family results r = Grows (λ answers. update form most answers m family results) [] r

-- the tree of a clause question
abbrev pub IsClauseSplit : Form → Method → Condition → Result Tree SplitFault → Type 0
IsClauseSplit form m c r = Grows (λ answers. fails form most answers m c) [] r

-- the clause of this number of the method, from 1
pub record IsClauseAt (form : Form) (method clause : ℕ) (m : Method) (test : Test) : Type 0 where
  pub found : slice_get form.methods method ≡ Some m
  pub some : 0 < clause
  pub at : slice_get m.clauses (clause - 1) ≡ Some test

abbrev pub HasClause : Form → ℕ → ℕ → Type 0
HasClause form method clause = (m : Method) × (test : Test) × IsClauseAt form method clause m test
