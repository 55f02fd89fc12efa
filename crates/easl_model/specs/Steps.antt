-- Statements as they are written, as plain trees with a list type of their own.
use Rattle.std.specs.Prelude.{Bool, List, [], ◌∷◌, map}
use Rattle.easl_model.specs.Clauses.{Clause, clause_of}
use Rattle.easl_model.specs.declared.place.Place.{Place}
use Rattle.easl_model.specs.declared.tree.Path.{Path}
use Rattle.easl_model.specs.declared.tree.Step.{Step, fold-Step}
use Rattle.easl_model.specs.declared.tree.Step.TheOpen.{Step-F}
use Rattle.easl_model.specs.declared.tree.Step.TheOpen as layer
use Rattle.easl_model.specs.declared.tree.Value.{Value}
use Rattle.easl_model.specs.declared.tree.Word.{Word}

infixr 20 ◌▸◌
mutual
  pub data Written : Type 0 where
    Declare : Word → Word → Value → Written
    Assign : Path → Value → Written
    -- the comparison, what is done where it is true and what else, and whether `else` is written
    If : Place → Clause → Block → Block → Bool → Written

  pub data Block : Type 0 where
    none : Block
    ◌▸◌ : Written → Block → Block

abbrev pub block : List Written → Block
block [] = none
block (x ∷ xs) = x ▸ block xs

abbrev pub rooted : Step-F Written → Written
rooted (layer.Declare class name v) = Declare class name v
rooted (layer.Assign path v) = Assign path v
rooted (layer.If place test first second has_else) = If place (clause_of test) (block first) (block second) has_else

abbrev pub written_of : Step → Written
written_of = fold-Step Written rooted

abbrev pub block_of : List Step → Block
block_of steps = block (map written_of steps)
