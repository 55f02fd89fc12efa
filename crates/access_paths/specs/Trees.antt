-- Trees of questions, and their answers.
use Rattle.std.specs.Prelude.{Bool, if◌then◌else◌}
use Rattle.access_paths.specs.Truth.{Equals}
use Rattle.access_paths.specs.declared.term.Term.{Term}
use Rattle.access_paths.specs.declared.tree.Tree.{fold-Tree}
use Rattle.access_paths.specs.declared.tree.Tree as code
use Rattle.access_paths.specs.declared.tree.Tree.TheOpen.{Tree-F}
use Rattle.access_paths.specs.declared.tree.Tree.TheOpen as layer

-- in the first branch the two terms are one object
pub data Tree : Type 0 where
  Leaf : Bool → Tree
  Ask : Term → Term → Tree → Tree → Tree

abbrev pub rooted : Tree-F Tree → Tree
rooted (layer.Leaf b) = Leaf b
rooted (layer.Ask t u x y) = Ask t u x y

abbrev pub tree_of : code.Tree → Tree
tree_of = fold-Tree Tree rooted

-- the tree's answer where it is known which terms are one
abbrev pub answer : Equals → Tree → Bool
answer equal (Leaf b) = b
answer equal (Ask t u x y) = if equal t u then answer equal x else answer equal y
