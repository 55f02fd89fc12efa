-- States of a procedure at a point.
use Rattle.std.specs.Prelude.{◌≡◌, ◌⊎◌, ℕ, List, length}
use Rattle.client_facts.specs.Names.{IsNameAt, Slots, object_in}
use Rattle.client_facts.specs.Setting.{Setting}
use Rattle.client_model.specs.Codes.{Name, Result, Slot, Static, Variable, name_of}
use Rattle.client_steps.specs.States.{State, variable_count}
use Rattle.easl_heap.specs.{IsFull, IsObjectOf, Object}

-- a slot has an object of its class or none, and every other name an object of its class
abbrev pub IsObject : List Object → ℕ → ℕ → Name → Type 0
IsObject heap class object (Static k) = IsObjectOf heap class object
IsObject heap class object (Variable j) = IsObjectOf heap class object
IsObject heap class object (Slot j) = (object ≡ 0) ⊎ IsObjectOf heap class object
IsObject heap class object (Result j) = IsObjectOf heap class object

-- a full heap, with an object for each name that may stand at a position of a class
pub record IsState (g : Setting) (p n : ℕ) (s : State) (slots : Slots) : Type 0 where
  pub full : IsFull g.form s.heap
  pub statics : length s.statics ≡ length g.client.statics
  pub variables : length s.variables ≡ variable_count g.client p
  pub objects : (class code : ℕ) → IsNameAt g p n class code → IsObject s.heap class (object_in s slots class code) (name_of code)
