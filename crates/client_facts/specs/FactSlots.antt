-- The hidden slots of facts.
use Rattle.std.specs.Prelude.{◌≡◌, ◌≢◌, ◌⊎◌, ℕ, List, [], ◌∷◌}
use Rattle.std.specs.List.{AllZip}
use Rattle.client_facts.specs.Facts.{classes_of}
use Rattle.client_facts.specs.Names.{Slots}
use Rattle.client_facts.specs.Setting.{Setting}
use Rattle.client_facts.specs.declared.fact.Fact.{Fact}
use Rattle.client_facts.specs.declared.fact.Fact.TheVariants.{Always, Of}
use Rattle.client_model.specs.Codes.{Name, Result, Slot, Static, Variable, name_of}

-- what is said of slots, by class and number, said of a name where it is a slot
abbrev pub AtSlot : (ℕ → ℕ → Type 0) → ℕ → Name → Type 0
AtSlot F class (Static k) = Unit {0}
AtSlot F class (Variable j) = Unit {0}
AtSlot F class (Slot j) = F class j
AtSlot F class (Result j) = Unit {0}

-- said of all slots of a fact
abbrev pub AllSlots : Setting → (ℕ → ℕ → Type 0) → Fact → Type 0
AllSlots g F Always = Unit {0}
AllSlots g F (Of family args) = AllZip (λ class code. AtSlot F class (name_of code)) (classes_of g family) args

-- its slots all have objects
abbrev pub IsFilled : Setting → Slots → Fact → Type 0
IsFilled g slots = AllSlots g (λ class number. slots class number ≢ 0)

-- it has no slot
abbrev pub IsSlotless : Setting → Fact → Type 0
IsSlotless g = AllSlots g (λ class number. ⊥)

-- the code stands at a position of the class
abbrev pub IsAmong : List ℕ → List ℕ → ℕ → ℕ → Type 0
IsAmong [] codes class code = ⊥
IsAmong (c ∷ classes) [] class code = ⊥
IsAmong (c ∷ classes) (a ∷ codes) class code = ((c ≡ class) × (a ≡ code)) ⊎ IsAmong classes codes class code

-- this slot is one of the fact's
abbrev pub HasSlot : Setting → Fact → ℕ → ℕ → Type 0
HasSlot g Always class number = ⊥
HasSlot g (Of family args) class number = (code : ℕ) × IsAmong (classes_of g family) args class code × (name_of code ≡ Slot number)
