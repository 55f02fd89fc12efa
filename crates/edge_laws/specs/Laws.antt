-- What edges stand for.
use Rattle.std.specs.Prelude.{◌↔◌, ℕ}
use Rattle.client_facts.specs.Flows.{IsClauseFact}
use Rattle.client_facts.specs.Setting.{Setting}
use Rattle.client_facts.specs.declared.fact.Fact.{Fact}
use Rattle.client_walks.specs.Edges.{IsEdge, edge}
use Rattle.client_walks.specs.Failures.{IsTrueAt}
use Rattle.client_walks.specs.PathPrograms.{StandsAt}
use Rattle.client_walks.specs.Paths.{IsEntered}
use Rattle.client_walks.specs.Walks.{Follows, Walk}

-- a walk of the procedure to the point n along which e follows from d, which the procedure is entered with
pub record StandsFor (g : Setting) (p n : ℕ) (d e : Fact) : Type 0 where
  pub entered : IsEntered g p d
  pub walk : Walk g p n
  pub follows : Follows g p n walk d e

-- an edge is there exactly where it stands for a walk
abbrev pub EdgesAreWalks : Type 0
EdgesAreWalks = (g : Setting) (p n : ℕ) (d e : Fact) → IsEdge g (edge p d n e) ↔ StandsFor g p n d e

-- an edge has a fact of the call's clause where the call stands
pub record HasClauseFact (g : Setting) (call clause : ℕ) : Type 0 where
  pub procedure : ℕ
  pub point : ℕ
  pub at : StandsAt g call procedure point
  pub entry : Fact
  pub fact : Fact
  pub is_edge : IsEdge g (edge procedure entry point fact)
  pub of_clause : IsClauseFact g call clause fact

-- a clause's fact is true along some path to its call exactly where an edge has one there
abbrev pub FlagsAreEdges : Type 0
FlagsAreEdges = (g : Setting) (call clause : ℕ) → IsTrueAt g call clause ↔ HasClauseFact g call clause
