-- How statements stand in one another, as plain trees with a list type of their own.
use Rattle.std.specs.Prelude.{ℕ, suc, ◌+◌, List, [], ◌∷◌}
use Rattle.client_model.specs.Statements.{Statement, Statements, none, ◌▸◌}
use Rattle.client_model.specs.Statements as written
use Rattle.client_model.specs.declared.form.Node.{Node, fold-Node}
use Rattle.client_model.specs.declared.form.Node.TheOpen.{Node-F}
use Rattle.client_model.specs.declared.form.Node.TheOpen as layer

infixr 20 ◌▹◌
mutual
  -- a statement by its point
  pub data Tree : Type 0 where
    Step : ℕ → Tree
    If : ℕ → Trees → Trees → Tree
    While : ℕ → Trees → Tree
    Break : ℕ → Tree
    Continue : ℕ → Tree
    Return : ℕ → Tree

  pub data Trees : Type 0 where
    end : Trees
    ◌▹◌ : Tree → Trees → Trees

abbrev pub trees : List Tree → Trees
trees [] = end
trees (x ∷ xs) = x ▹ trees xs

abbrev pub rooted : Node-F Tree → Tree
rooted (layer.Step point) = Step point
rooted (layer.If point first second) = If point (trees first) (trees second)
rooted (layer.While point inner) = While point (trees inner)
rooted (layer.Break point) = Break point
rooted (layer.Continue point) = Continue point
rooted (layer.Return point) = Return point

abbrev pub tree_of : Node → Tree
tree_of = fold-Node Tree rooted

abbrev mutual
  -- how many statements there are, those in others among them
  pub count : Statements → ℕ
  count none = 0
  count (x ▸ xs) = count_in x + count xs

  pub count_in : Statement → ℕ
  count_in (written.If place t first second has_else) = suc (count first + count second)
  count_in (written.While place t inner) = suc (count inner)
  count_in x = 1

abbrev mutual
  -- the statements by their points, which are numbered in text order from here on
  pub shape_from : ℕ → Statements → Trees
  shape_from point none = end
  shape_from point (x ▸ xs) = node_at point x ▹ shape_from (point + count_in x) xs

  pub node_at : ℕ → Statement → Tree
  node_at point (written.Declare place sort w v) = Step point
  node_at point (written.Assign w v) = Step point
  node_at point (written.Do v) = Step point
  node_at point (written.If place t first second has_else) = If point (shape_from (suc point) first) (shape_from (suc point + count first) second)
  node_at point (written.While place t inner) = While point (shape_from (suc point) inner)
  node_at point (written.Break place) = Break point
  node_at point (written.Continue place) = Continue point
  node_at point (written.Return r) = Return point
