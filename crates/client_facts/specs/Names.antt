-- What names stand for: those of a run, and the hidden slots. A slot stands for one reference that callers hold and that the procedure does
-- not see by that name; it may stand at a position of any class, and slots of two classes are different slots.
use Rattle.std.specs.Prelude.{◌≡◌, ℕ, ◌<◌, Contains, Some, slice_get, slice_index}
use Rattle.client_facts.specs.Setting.{Setting, exit_of, result_of, set_of, variables_of}
use Rattle.client_model.specs.Codes.{Name, Result, Slot, Static, Variable, name_of}
use Rattle.client_steps.specs.States.{State}

-- the objects of the hidden slots by class and number, 0 where there is none
abbrev pub Slots : Type 0
Slots = ℕ → ℕ → ℕ

abbrev pub no_slots : Slots
no_slots class number = 0

-- the object of a name at a position of this class, 0 where there is none
abbrev pub object_named : State → Slots → ℕ → Name → ℕ
object_named s slots class (Static k) = slice_index s.statics k
object_named s slots class (Variable j) = slice_index s.variables j
object_named s slots class (Slot j) = slots class j
object_named s slots class (Result j) = s.result

-- the same of the name with this code
abbrev pub object_in : State → Slots → ℕ → ℕ → ℕ
object_in s slots class code = object_named s slots class (name_of code)

-- what may stand at a position of this class: a static or a variable of the class that is surely assigned at the point, one of three slots,
-- and at the exit a result of the class
abbrev pub MayStand : Setting → ℕ → ℕ → ℕ → ℕ → Name → Type 0
MayStand g p n class code (Static k) = (slice_get g.client.statics k ≡ Some (Some class)) × Contains (set_of g p n) code
MayStand g p n class code (Variable j) = (slice_get (variables_of g p) j ≡ Some (Some class)) × Contains (set_of g p n) code
MayStand g p n class code (Slot j) = j < 3
MayStand g p n class code (Result j) = (j ≡ 0) × (result_of g p ≡ Some class) × (n ≡ exit_of g p)

-- a name of the procedure at the point that may stand at a position of this class
abbrev pub IsNameAt : Setting → ℕ → ℕ → ℕ → ℕ → Type 0
IsNameAt g p n class code = MayStand g p n class code (name_of code)
