-- Statements as plain trees, with a list type of their own.
use Rattle.std.specs.Prelude.{ℕ, List, [], ◌∷◌, map}
use Rattle.easl_model.specs.Conditions.{Condition, condition_of}
use Rattle.easl_model.specs.declared.form.Reach.{Reach}
use Rattle.easl_model.specs.declared.form.Source.{Source}
use Rattle.easl_model.specs.declared.form.Act.{Act, fold-Act}
use Rattle.easl_model.specs.declared.form.Act.TheOpen.{Act-F}
use Rattle.easl_model.specs.declared.form.Act.TheOpen as layer

infixr 20 ◌▸◌
mutual
  -- declare the next slot, assign a slot, assign a field of what is reached; what is executed where a condition is true,
  -- and what else
  pub data Statement : Type 0 where
    Local : Source → Statement
    Change : ℕ → Source → Statement
    Write : Reach → ℕ → Source → Statement
    If : Condition → Statements → Statements → Statement

  pub data Statements : Type 0 where
    none : Statements
    ◌▸◌ : Statement → Statements → Statements

abbrev pub statements : List Statement → Statements
statements [] = none
statements (x ∷ xs) = x ▸ statements xs

abbrev pub rooted : Act-F Statement → Statement
rooted (layer.Local source) = Local source
rooted (layer.Change slot source) = Change slot source
rooted (layer.Write target field source) = Write target field source
rooted (layer.If test first second) = If (condition_of test) (statements first) (statements second)

abbrev pub statement_of : Act → Statement
statement_of = fold-Act Statement rooted

abbrev pub statements_of : List Act → Statements
statements_of acts = statements (map statement_of acts)
