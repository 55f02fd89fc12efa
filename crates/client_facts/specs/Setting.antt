-- A client with its specification and what is derived from that: the points of its procedures, and where they go on.
use Rattle.std.specs.Prelude.{◌≡◌, ℕ, Bool, true, false, List, [], Option, Some, None, option_and_then, option_map, slice_index_or}
use Rattle.std.specs.Option.{option_map_or}
use Rattle.client_model.specs.CheckedForm.{ClientForm}
use Rattle.client_model.specs.declared.form.Point.{Point}
use Rattle.client_model.specs.declared.form.Point.TheVariants as point
use Rattle.client_steps.specs.States.{Call, call_at, call_in, point_at, procedure_at}
use Rattle.easl_model.specs.Form.{Form}
use Rattle.flow_graph.specs.Points.{exit_at, ways_at}
use Rattle.method_abstraction.specs.declared.entry.Abstraction.{Abstraction}

pub record Setting : Type 0 where
  pub form : Form
  pub client : ClientForm
  pub abstraction : Abstraction

-- the number behind that of a procedure's last point
abbrev pub exit_of : Setting → ℕ → ℕ
exit_of g p = exit_at g.client p

-- where a point goes on, on T and on F; the exit goes nowhere
abbrev pub ways_of : Setting → ℕ → ℕ → Option (ℕ × ℕ)
ways_of g p n = ways_at g.client p n

-- the classes of a procedure's variables, None where one is opaque
abbrev pub variables_of : Setting → ℕ → List (Option ℕ)
variables_of g p = option_map_or (λ x. x.variables) (procedure_at g.client p) []

abbrev pub result_of : Setting → ℕ → Option ℕ
result_of g p = option_and_then (λ x. x.result) (procedure_at g.client p)

-- the codes of the names that are surely assigned at a point
abbrev pub set_of : Setting → ℕ → ℕ → List ℕ
set_of g p n = option_map_or (λ x. slice_index_or x.set n []) (procedure_at g.client p) []

abbrev pub way : Bool → ℕ × ℕ → ℕ
way true ways = ways.0
way false ways = ways.1

-- with this outcome a point goes on at the point m
abbrev pub GoesOn : Setting → ℕ → ℕ → Bool → ℕ → Type 0
GoesOn g p n b m = option_map (way b) (ways_of g p n) ≡ Some m

-- the outcomes that a point may have: both where it is a test, and else T
abbrev pub IsOutcome : Point → Bool → Type 0
IsOutcome (point.Branch call) b = Unit {0}
IsOutcome (point.Copy target source) b = b ≡ true
IsOutcome (point.Component target call) b = b ≡ true
IsOutcome (point.Call target callee args place) b = b ≡ true
IsOutcome point.Nothing b = b ≡ true

-- a step from the point n to the point m, which is no procedure call
pub record IsStep (g : Setting) (p n : ℕ) (b : Bool) (m : ℕ) : Type 0 where
  pub here : Point
  pub is : point_at g.client p n ≡ Some here
  pub plain : call_in here ≡ None
  pub outcome : IsOutcome here b
  pub goes : GoesOn g p n b m

-- this procedure call stands at the point n, and the point m behind it
pub record IsCall (g : Setting) (p n : ℕ) (k : Call) (m : ℕ) : Type 0 where
  pub call : call_at g.client p n ≡ Some k
  pub goes : GoesOn g p n true m
