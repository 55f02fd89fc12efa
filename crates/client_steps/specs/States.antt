-- States of a run: the heap, and the objects that names have.
use Rattle.std.specs.Prelude.{ℕ, ◌-◌, List, [], ◌++◌, Option, Some, None, length, map, option_and_then, replicate, slice_get, slice_index, slice_set}
use Rattle.std.specs.Option.{option_map_or}
use Rattle.client_model.specs.declared.form.Point.{Point}
use Rattle.client_model.specs.declared.form.Point.TheVariants as point
use Rattle.client_model.specs.CheckedForm.{ClientForm, ProcedureForm}
use Rattle.client_model.specs.Codes.{Name, Result, Slot, Static, Variable, name_of}
use Rattle.client_model.specs.Nodes.{Trees, end}
use Rattle.easl_heap.specs.Heap.{Object}

-- the heap and the objects of the statics, and the frame of the procedure that is executed: the objects of its variables and
-- of its result; 0 where there is none (own)
pub record State : Type 0 where
  pub heap : List Object
  pub statics : List ℕ
  pub variables : List ℕ
  pub result : ℕ

abbrev pub named : State → Name → ℕ
named s (Static k) = slice_index s.statics k
named s (Variable j) = slice_index s.variables j
named s (Slot j) = 0
named s (Result j) = s.result

-- the object of the name with this code, 0 where the value is opaque; a run has no hidden slots
abbrev pub object_of : State → Option ℕ → ℕ
object_of s None = 0
object_of s (Some code) = named s (name_of code)

abbrev pub set_named : Name → ℕ → State → State
set_named (Static k) object s = record s { statics = slice_set s.statics k object }
set_named (Variable j) object s = record s { variables = slice_set s.variables j object }
set_named (Slot j) object s = s
set_named (Result j) object s = record s { result = object }

abbrev pub with_object : Option ℕ → ℕ → State → State
with_object None object s = s
with_object (Some code) object s = set_named (name_of code) object s

abbrev pub procedure_at : ClientForm → ℕ → Option ProcedureForm
procedure_at client p = slice_get client.procedures p

abbrev pub point_at : ClientForm → ℕ → ℕ → Option Point
point_at client p number = option_and_then (λ x. slice_get x.points number) (procedure_at client p)

-- how many variables the procedure has, its parameters among them
abbrev pub variable_count : ClientForm → ℕ → ℕ
variable_count client p = option_map_or (λ x. length x.variables) (procedure_at client p) 0

-- the statements of the procedure by their points
abbrev pub body_at : ClientForm → ℕ → Trees
body_at client p = option_map_or (λ x. x.shape) (procedure_at client p) end

-- a procedure call: the name that takes the result, the procedure, and the names of the arguments
pub record Call : Type 0 where
  pub target : Option ℕ
  pub callee : ℕ
  pub args : List (Option ℕ)

abbrev pub call_in : Point → Option Call
call_in (point.Call target callee args place) = Some (record { target = target; callee = callee; args = args })
call_in (point.Copy target source) = None
call_in (point.Component target call) = None
call_in (point.Branch call) = None
call_in point.Nothing = None

abbrev pub call_at : ClientForm → ℕ → ℕ → Option Call
call_at client p number = option_and_then call_in (point_at client p number)

-- in a fresh frame of the procedure that is called: the arguments are its first variables
abbrev pub entered : ClientForm → Call → State → State
entered client k s = record {
  heap = s.heap;
  statics = s.statics;
  variables = map (object_of s) k.args ++ replicate (variable_count client k.callee - length k.args) 0;
  result = 0;
}

-- after a call from the first state that is left in the second: the caller's frame again, with the result
abbrev pub returned : Call → State → State → State
returned k s left = with_object k.target left.result (record s { heap = left.heap; statics = left.statics })

-- before the first initialiser
abbrev pub at_first : ClientForm → State
at_first client = record {
  heap = [];
  statics = replicate (length client.statics) 0;
  variables = replicate (variable_count client 0) 0;
  result = 0;
}
