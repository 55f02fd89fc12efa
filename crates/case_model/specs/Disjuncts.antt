-- Implicants, the widest of them, and the choice among these.
use Rattle.std.specs.Prelude.{◌≡◌, ℕ, ◌≤◌, ◌↔◌, true, ◌==◌, ◌||◌, List, [], ◌∷◌, length, All, AllPairs, Any, Contains, count_by}
use Rattle.std.specs.List.{list_any}
use Rattle.std.specs.declared.cmp.Ordering.TheVariants.{Less}
use Rattle.access_paths.specs.{IsCube, answer, compare_cubes, cube_holds}
use Rattle.access_paths.specs.Trees.{Tree}
use Rattle.access_paths.specs.declared.term.Cube.{Cube}
use Rattle.access_paths.specs.declared.term.Term.{Term}
use Rattle.case_model.specs.Configurations.{by_blocks}
use Rattle.case_model.specs.TermLists.{HasTerms, terms_of_cube}

-- the numbers of a question's variables
abbrev pub variable_numbers : List ℕ
variable_numbers = 0 ∷ 1 ∷ 2 ∷ 3 ∷ 4 ∷ 5 ∷ 6 ∷ 7 ∷ []

-- how many variables a cube has
abbrev pub variable_count : Cube → ℕ
variable_count c = count_by (λ v. list_any (λ l. l.less.var.0 == v || l.more.var.0 == v) c.literals) variable_numbers

-- Below, the configurations are those of the care list of a question on these terms, with this tree.
module _ (ts : List Term) (care : List (List ℕ)) (tree : Tree) where
  abbrev pub IsTrueAt : Cube → List ℕ → Type 0
  IsTrueAt c bs = cube_holds (by_blocks ts bs) c.literals ≡ true

  -- a cube over the term list, of few literals and variables, true somewhere, and nowhere where the tree is false
  pub record IsImplicant (c : Cube) : Type 0 where
    pub cube : IsCube c
    pub over : HasTerms ts (terms_of_cube c.literals)
    pub few_literals : length c.literals ≤ 4
    pub few_variables : variable_count c ≤ 3
    pub some : Any (IsTrueAt c) care
    pub none : All (λ bs. IsTrueAt c bs → answer (by_blocks ts bs) tree ≡ true) care

  -- the second is true wherever the first is
  abbrev pub IsWithin : Cube → Cube → Type 0
  IsWithin c d = All (λ bs. IsTrueAt c bs → IsTrueAt d bs) care

  -- no implicant is true in strictly more
  pub record IsWidest (c : Cube) : Type 0 where
    pub implicant : IsImplicant c
    pub widest : (d : Cube) → IsImplicant d → IsWithin c d → IsWithin d c

  -- it is true in a configuration where none of these is that comes before it
  abbrev pub Adds : List Cube → Cube → Type 0
  Adds chosen c = Any (λ bs. IsTrueAt c bs × ((d : Cube) → Contains chosen d → compare_cubes d c ≡ Less → ¬ IsTrueAt d bs)) care

  -- in order, each widest implicant that adds to those before it
  pub record AreDisjuncts (chosen : List Cube) : Type 0 where
    pub ordered : AllPairs (λ c d. compare_cubes c d ≡ Less) chosen
    pub are : (c : Cube) → Contains chosen c ↔ (IsWidest c × Adds chosen c)

  -- the tree is true where no chosen cube is
  abbrev pub FallsShort : List Cube → Type 0
  FallsShort chosen = Any (λ bs. (answer (by_blocks ts bs) tree ≡ true) × All (λ c. ¬ IsTrueAt c bs) chosen) care
