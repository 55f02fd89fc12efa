-- Statements as plain trees, with a list type of their own.
use Rattle.std.specs.Prelude.{Bool, List, [], ◌∷◌, Option}
use Rattle.easl_model.specs.declared.place.Place.{Place}
use Rattle.easl_model.specs.declared.tree.Sort.{Sort}
use Rattle.easl_model.specs.declared.tree.Word.{Word}
use Rattle.client_model.specs.declared.tree.Return.{Return as Returned}
use Rattle.client_model.specs.declared.tree.Rhs.{Rhs}
use Rattle.client_model.specs.declared.tree.Test.{Test}
use Rattle.client_model.specs.declared.tree.Stmt.{Stmt, fold-Stmt}
use Rattle.client_model.specs.declared.tree.Stmt.TheOpen.{Stmt-F}
use Rattle.client_model.specs.declared.tree.Stmt.TheOpen as layer

infixr 20 ◌▸◌
mutual
  pub data Statement : Type 0 where
    -- the place of its first token, its type and name, and its value if one is written
    Declare : Place → Sort → Word → Option Rhs → Statement
    Assign : Word → Rhs → Statement
    Do : Rhs → Statement
    -- the place of its keyword, the test, what is done where it is true and where not, and whether `else` is written
    If : Place → Test → Statements → Statements → Bool → Statement
    While : Place → Test → Statements → Statement
    -- the place of its keyword
    Break : Place → Statement
    Continue : Place → Statement
    Return : Returned → Statement

  pub data Statements : Type 0 where
    none : Statements
    ◌▸◌ : Statement → Statements → Statements

abbrev pub statements : List Statement → Statements
statements [] = none
statements (s ∷ rest) = s ▸ statements rest

abbrev pub rooted : Stmt-F Statement → Statement
rooted (layer.Declare place sort name value) = Declare place sort name value
rooted (layer.Assign target value) = Assign target value
rooted (layer.Do action) = Do action
rooted (layer.If place test first second written) = If place test (statements first) (statements second) written
rooted (layer.While place test body) = While place test (statements body)
rooted (layer.Break place) = Break place
rooted (layer.Continue place) = Continue place
rooted (layer.Return written) = Return written

abbrev pub statement_of : Stmt → Statement
statement_of = fold-Stmt Statement rooted
