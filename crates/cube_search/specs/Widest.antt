-- The widest of the items that count, and the choice among them: items are true at cases, `within` tells whether one is true
-- only where another is, and they have an order.
use Rattle.std.specs.Prelude.{◌≡◌, Bool, true, List}
use Rattle.cube_search.specs.Lists.{IsIn, Rises}

-- it counts, and none that counts is strictly wider
pub record IsWidest {Q : Type 0} (within : Q → Q → Bool) (Counts : Q → Type 0) (c : Q) : Type 0 where
  pub counts : Counts c
  pub widest : (d : Q) → Counts d → within c d ≡ true → within d c ≡ true

-- it is true at a case where none of these is that comes before it
abbrev pub Adds : {Q C : Type 0} → (Q → C → Type 0) → (Q → Q → Type 0) → List Q → Q → Type 0
Adds {Q} {C} True Before chosen c = (x : C) × True c x × ((d : Q) → IsIn d chosen → Before d c → True d x → ⊥)

-- In order, each widest one that adds to those that are chosen before it.
pub record AreChosen {Q C : Type 0} (True : Q → C → Type 0) (Before : Q → Q → Type 0) (within : Q → Q → Bool) (Counts : Q → Type 0) (chosen : List Q) : Type 0
  where
    pub order : Rises Before chosen
    pub widest : (c : Q) → IsIn c chosen → IsWidest within Counts c × Adds True Before chosen c
    pub all : (c : Q) → IsWidest within Counts c → Adds True Before chosen c → IsIn c chosen
