-- Clauses as they are written, as plain trees with a list type of their own.
use Rattle.std.specs.Prelude.{List, [], ◌∷◌}
use Rattle.easl_model.specs.declared.tree.Path.{Path}
use Rattle.easl_model.specs.declared.tree.Cond.{Cond, fold-Cond}
use Rattle.easl_model.specs.declared.tree.Cond.TheOpen.{Cond-F}
use Rattle.easl_model.specs.declared.tree.Cond.TheOpen as layer

mutual
  pub data Clause : Type 0 where
    Same : Path → Path → Clause
    Differ : Path → Path → Clause
    All : Clauses → Clause
    Any : Clauses → Clause

  pub data Clauses : Type 0 where
    none : Clauses
    more : Clause → Clauses → Clauses

abbrev pub clauses : List Clause → Clauses
clauses [] = none
clauses (c ∷ cs) = more c (clauses cs)

abbrev pub rooted : Cond-F Clause → Clause
rooted (layer.Same left right) = Same left right
rooted (layer.Differ left right) = Differ left right
rooted (layer.All conds) = All (clauses conds)
rooted (layer.Any conds) = Any (clauses conds)

abbrev pub clause_of : Cond → Clause
clause_of = fold-Cond Clause rooted
