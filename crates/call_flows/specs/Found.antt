-- Facts that are found.
use Rattle.std.specs.Prelude.{◌≡◌, ◌⊎◌, ℕ, List, Contains}
use Rattle.client_facts.specs.declared.fact.Fact.{Fact}
use Rattle.client_facts.specs.declared.fact.Fact.TheVariants.{Of}

-- the new facts are the old ones, and this one if it is wanted
pub record AddsWanted (W : Fact → Type 0) (fact : Fact) (old new : List Fact) : Type 0 where
  pub kept : (f : Fact) → Contains old f → Contains new f
  pub added : W fact → Contains new fact
  pub only : (f : Fact) → Contains new f → Contains old f ⊎ W f

-- the family with one of these lists of names
abbrev pub IsListed : ℕ → List (List ℕ) → Fact → Type 0
IsListed family lists f = (codes : List ℕ) × Contains lists codes × (f ≡ Of family codes)

-- only what is wanted, and of the facts that are tried all that are wanted
pub record Finds (W Tried : Fact → Type 0) (facts : List Fact) : Type 0 where
  pub only : (f : Fact) → Contains facts f → W f
  pub all : (f : Fact) → Tried f → W f → Contains facts f

-- all that is wanted
abbrev pub AreAll : (Fact → Type 0) → List Fact → Type 0
AreAll W facts = (f : Fact) → (Contains facts f → W f) × (W f → Contains facts f)
