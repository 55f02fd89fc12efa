-- How far the edges are found.
use Rattle.std.specs.Prelude.{ℕ, ◌≤◌, List, Contains, length, take}
use Rattle.client_facts.specs.Setting.{Setting}
use Rattle.client_walks.specs.Edges.{IsEdge, IsGivenBy}
use Rattle.client_walks.specs.declared.edge.Edge.{Edge}
use Rattle.tabulation.specs.Orders.{IsInOrder}

-- these are edges, found in order, and hold all that those before the place give
pub record IsSoFar (g : Setting) (edges : List Edge) (at : ℕ) : Type 0 where
  pub within : at ≤ length edges
  pub sound : (x : Edge) → Contains edges x → IsEdge g x
  pub order : IsInOrder g edges
  pub closed : (x : Edge) → IsGivenBy g (Contains (take at edges)) x → Contains edges x
