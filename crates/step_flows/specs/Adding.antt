-- Facts that are added to others.
use Rattle.std.specs.Prelude.{◌⊎◌, List, Contains}
use Rattle.client_facts.specs.declared.fact.Fact.{Fact}

-- the new facts are the old ones and all of which this is true
pub record Adds (R : Fact → Type 0) (old new : List Fact) : Type 0 where
  pub kept : (f : Fact) → Contains old f → Contains new f
  pub added : (f : Fact) → R f → Contains new f
  pub only : (f : Fact) → Contains new f → Contains old f ⊎ R f

-- it is true of one of these and the fact
pub record IsBySome {X : Type 0} (R : X → Fact → Type 0) (xs : List X) (f : Fact) : Type 0 where
  pub chosen : X
  pub among : Contains xs chosen
  pub true_of : R chosen f
