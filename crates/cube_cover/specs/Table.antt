-- A table of literals with the rows of the configurations of a care list in which they are true.
use Rattle.std.specs.Prelude.{◌≡◌, ℕ, Bool, true, not, List, map}
use Rattle.std.specs.List.{AllZip}
use Rattle.access_paths.specs.{answer, literal_holds}
use Rattle.access_paths.specs.Trees.{Tree}
use Rattle.access_paths.specs.declared.term.Literal.{Literal}
use Rattle.access_paths.specs.declared.term.Term.{Term}
use Rattle.case_model.specs.{by_blocks}
use Rattle.cube_search.specs.declared.searching.Task.{Task}
use Rattle.cube_search.specs.Truths.{IsRowOf}

-- where a literal is true
abbrev pub truths_of : List Term → List (List ℕ) → Literal → List Bool
truths_of ts care l = map (λ bs. literal_holds (by_blocks ts bs) l) care

-- what the tree answers in each configuration
abbrev pub answers_of : List Term → List (List ℕ) → Tree → List Bool
answers_of ts care tree = map (λ bs. answer (by_blocks ts bs) tree) care

-- the same answer everywhere
abbrev pub everywhere : Bool → List (List ℕ) → List Bool
everywhere b care = map (λ bs. b) care

-- the task has the rows of these literals and of the tree
pub record IsTaskOf (ts : List Term) (care : List (List ℕ)) (tree : Tree) (ls : List Literal) (task : Task) : Type 0 where
  pub rows : AllZip (λ l row. IsRowOf (truths_of ts care l) row) ls task.rows.items
  pub variables : task.variables.items ≡ map (λ l. (l.less.var.0, l.more.var.0)) ls
  pub all : IsRowOf (everywhere true care) task.all
  pub never : IsRowOf (map not (answers_of ts care tree)) task.never
  pub wanted : IsRowOf (answers_of ts care tree) task.wanted
