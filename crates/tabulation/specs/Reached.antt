-- Returns between an edge and those at noted places.
use Rattle.std.specs.Prelude.{◌≡◌, ◌⊎◌, ℕ, List, Contains, Some, slice_get}
use Rattle.client_facts.specs.Facts.{IsFact}
use Rattle.client_facts.specs.Setting.{Setting}
use Rattle.client_facts.specs.declared.fact.Fact.{Fact}
use Rattle.client_walks.specs.declared.edge.Edge.{Edge}
use Rattle.tabulation.specs.Indexed.{context}
use Rattle.tabulation.specs.Successors.{IsReturned}
use Rattle.tabulation.specs.Tables.{HasPlace, IsPlaced, PlaceLists}

-- the new edges are the old ones, all of the one kind, and some of the other
pub record IsReached (must may : Edge → Type 0) (old new : List Edge) : Type 0 where
  pub kept : (y : Edge) → Contains old y → Contains new y
  pub added : (y : Edge) → must y → Contains new y
  pub only : (y : Edge) → Contains new y → Contains old y ⊎ may y

-- it follows from the edge at this place
pub record IsFromPlace (R : Edge → Edge → Type 0) (edges : List Edge) (j : ℕ) (y : Edge) : Type 0 where
  pub other : Edge
  pub there : slice_get edges j ≡ Some other
  pub has : R other y

-- from an edge at a place that is listed
pub record IsMet (R : Edge → Edge → Type 0) (t : PlaceLists) (edges : List Edge) (y : Edge) : Type 0 where
  pub place : ℕ
  pub listed : HasPlace t place
  pub from : IsFromPlace R edges place y

-- from an edge at a place of this context, which has this entry fact
pub record IsMetAt (g : Setting) (x : Edge) (t : PlaceLists) (edges : List Edge) (callee : ℕ) (f : Fact) (y : Edge) : Type 0 where
  pub place : ℕ
  pub other : Edge
  pub there : slice_get edges place ≡ Some other
  pub placed : IsPlaced t (context callee f) place
  pub entry : other.entry ≡ f
  pub has : IsReturned g x other y

-- from an edge at the exit of what is called at x
pub record IsMetExit (g : Setting) (x : Edge) (t : PlaceLists) (edges : List Edge) (y : Edge) : Type 0 where
  pub place : ℕ
  pub other : Edge
  pub there : slice_get edges place ≡ Some other
  pub placed : IsPlaced t (context other.procedure other.entry) place
  pub fact : IsFact g other.procedure 0 other.entry
  pub has : IsReturned g x other y

-- from an edge at a call that enters the context of x
pub record IsMetCaller (g : Setting) (x : Edge) (t : PlaceLists) (edges : List Edge) (y : Edge) : Type 0 where
  pub place : ℕ
  pub other : Edge
  pub there : slice_get edges place ≡ Some other
  pub placed : IsPlaced t (context x.procedure x.entry) place
  pub has : IsReturned g other x y
