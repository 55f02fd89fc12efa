-- Sets of facts.
use Rattle.std.specs.Prelude.{◌≡◌, ◌≢◌, ◌⊎◌, List, AllPairs, Contains}
use Rattle.client_facts.specs.declared.fact.Fact.{Fact}

-- each stands there once
abbrev pub AllDiffer : List Fact → Type 0
AllDiffer facts = AllPairs (λ x y. x ≢ y) facts

-- the new facts are the old ones and this one
abbrev pub IsWith : List Fact → Fact → List Fact → Type 0
IsWith old fact new = (f : Fact) → (Contains new f → Contains old f ⊎ (f ≡ fact)) × (Contains old f ⊎ (f ≡ fact) → Contains new f)
