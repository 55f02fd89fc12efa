-- Slot choices: which names of the caller the hidden slots of a called procedure stand for.
use Rattle.std.specs.Prelude.{◌≡◌, ℕ, ◌<◌, Option, Some}
use Rattle.std.specs.Option.{option_map_or}
use Rattle.client_facts.specs.Names.{IsNameAt, Slots, object_in}
use Rattle.client_facts.specs.Setting.{Setting}
use Rattle.client_model.specs.Codes.{Name, Result, Slot, Static, Variable, name_of}
use Rattle.client_steps.specs.States.{State}

-- the name that is given to each slot, by class and number, None where a slot is given none
abbrev pub Choice : Type 0
Choice = ℕ → ℕ → Option ℕ

-- a variable or a slot; a static is seen by the procedure that is called
abbrev pub MayBeGiven : Name → Type 0
MayBeGiven (Static k) = ⊥
MayBeGiven (Variable j) = Unit {0}
MayBeGiven (Slot j) = Unit {0}
MayBeGiven (Result j) = ⊥

-- one of the three slots of a class may be given the name, which is a variable or a slot of that class
pub record IsGiven (g : Setting) (p n class number code : ℕ) : Type 0 where
  pub three : number < 3
  pub named : IsNameAt g p n class code
  pub kind : MayBeGiven (name_of code)

-- a slot choice for the call at this point: no name is given to two slots
pub record IsChoice (g : Setting) (p n : ℕ) (c : Choice) : Type 0 where
  pub given : (class number code : ℕ) → c class number ≡ Some code → IsGiven g p n class number code
  pub once : (class one other code : ℕ) → c class one ≡ Some code → c class other ≡ Some code → one ≡ other

-- the objects of the slots of the called procedure: those of the names that they are given in the caller's state
abbrev pub slots_given : Choice → State → Slots → Slots
slots_given c s slots class number = option_map_or (object_in s slots class) (c class number) 0
