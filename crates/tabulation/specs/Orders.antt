-- Lists of edges in the order in which they are found.
use Rattle.std.specs.Prelude.{◌≡◌, ◌≢◌, ℕ, ◌<◌, List, AllPairs, Contains, Some, slice_get, take}
use Rattle.client_facts.specs.Setting.{Setting}
use Rattle.client_walks.specs.Edges.{IsGivenBy, first_edge}
use Rattle.client_walks.specs.declared.edge.Edge.{Edge}

-- each stands there once
abbrev pub AllDiffer : List Edge → Type 0
AllDiffer edges = AllPairs (λ x y. x ≢ y) edges

-- the first edge, and then each is given by edges before it
pub record IsInOrder (g : Setting) (edges : List Edge) : Type 0 where
  pub first : slice_get edges 0 ≡ Some first_edge
  pub later : (j : ℕ) (x : Edge) → 0 < j → slice_get edges j ≡ Some x → IsGivenBy g (Contains (take j edges)) x
