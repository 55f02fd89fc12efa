-- What is asked of configurations that are handed in, and those that numbers name.
use Rattle.std.specs.Prelude.{◌≡◌, ◌↔◌, ℕ, ◌≤◌, true, List, [], All, Any, length, map, get_or}
use Rattle.access_paths.specs.{answer}
use Rattle.access_paths.specs.Trees.{Tree}
use Rattle.access_paths.specs.declared.term.Cube.{Cube}
use Rattle.access_paths.specs.declared.term.Term.{Term}
use Rattle.alias_cases.specs.declared.case.Cases.{Cases}
use Rattle.case_model.specs.{AreConfigurations, AreDisjuncts, FallsShort, IsTermList, IsTrueAt, by_blocks}

-- all configurations of a term list, and not too many
pub record AreCases (cases : Cases) : Type 0 where
  pub term_list : IsTermList cases.terms.list cases.terms.classes
  pub whole : AreConfigurations cases.terms.list cases.terms.classes cases.list
  pub few : length cases.list ≤ 65536

-- the configurations of these numbers
abbrev pub configurations_at : List (List ℕ) → List ℕ → List (List ℕ)
configurations_at all numbers = map (λ k. get_or all k []) numbers

-- in each configuration the cubes are together true exactly where the tree is
abbrev pub AreTogether : List Term → List (List ℕ) → Tree → List Cube → Type 0
AreTogether ts care tree chosen = All (λ bs. Any (λ c. IsTrueAt ts care tree c bs) chosen ↔ (answer (by_blocks ts bs) tree ≡ true)) care

-- somewhere the tree is true where no disjunct is
abbrev pub DisjunctsFallShort : List Term → List (List ℕ) → Tree → Type 0
DisjunctsFallShort ts care tree = (chosen : List Cube) × AreDisjuncts ts care tree chosen × FallsShort ts care tree chosen
