-- Lists of edges with more of them.
use Rattle.std.specs.Prelude.{◌⊎◌, List, Contains}
use Rattle.client_walks.specs.declared.edge.Edge.{Edge}

-- the new edges are the old ones and all of this kind
pub record IsExtended (P : Edge → Type 0) (old new : List Edge) : Type 0 where
  pub kept : (y : Edge) → Contains old y → Contains new y
  pub added : (y : Edge) → P y → Contains new y
  pub only : (y : Edge) → Contains new y → Contains old y ⊎ P y

-- of the kind that one of the items has
pub record IsOfOne {A : Type 0} (R : A → Edge → Type 0) (items : List A) (y : Edge) : Type 0 where
  pub item : A
  pub among : Contains items item
  pub has : R item y
