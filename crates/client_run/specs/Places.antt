-- Runs from point to point: where a run stands, and what a turn comes to (own).
use Rattle.std.specs.Prelude.{◌≡◌, ℕ, Bool, true, false, List, [], ◌∷◌, Option, Some, None, length}
use Rattle.client_model.specs.CheckedForm.{ClientForm}
use Rattle.client_steps.specs.Runs.{Begun, Ends, Enters, Moment, On, Outcome, Over, Skips, Stops, Tested, begun, called_from, choosing, start}
use Rattle.client_steps.specs.States.{Call, State, call_at, entered, point_at, with_object}
use Rattle.client_run.specs.Graph.{is_test}
use Rattle.flow_graph.specs.Points.{ways_at}
use Rattle.easl_model.specs.Form.{Form}

-- a procedure that has called another: the point behind the call, the name that takes the result, and its frame
pub record Waiting : Type 0 where
  pub procedure : ℕ
  pub point : ℕ
  pub target : Option ℕ
  pub variables : List ℕ
  pub result : ℕ

-- the frame of the procedure that is executed, and the procedures that wait, the one that called it first
pub record Frames : Type 0 where
  pub variables : List ℕ
  pub result : ℕ
  pub behind : List Waiting

-- the state of a run, and the procedures that wait
pub record Standing : Type 0 where
  pub state : State
  pub behind : List Waiting

-- where a run stands: at a point of a procedure, the exit included, and which procedures wait, the one that called it first
pub record Place : Type 0 where
  pub procedure : ℕ
  pub point : ℕ
  pub moment : Moment
  pub behind : List Waiting

abbrev pub place : ℕ → ℕ → List Waiting → Moment → Place
place p number behind m = record { procedure = p; point = number; moment = m; behind = behind }

-- a run goes on there, or is over
pub data Turn : Type 0 where
  Goes : Place → Turn
  Ended : Outcome → Turn

-- the frame of the procedure that waited, with the result of the one that is left in this state
abbrev pub resumed : Waiting → State → State
resumed w s = with_object w.target s.result (record s { variables = w.variables; result = w.result })

-- behind the last statement of a procedure
abbrev pub left : List Waiting → Moment → Turn
left [] m = Ended (Ends (length m.choices))
left (w ∷ behind) m = Goes (place w.procedure w.point behind (record m { state = resumed w m.state }))

-- the procedure that makes this call in this state, and goes on there
abbrev pub waiting : ℕ → ℕ → Call → State → Waiting
waiting p next k s = record { procedure = p; point = next; target = k.target; variables = s.variables; result = s.result }

-- a procedure is entered
abbrev pub entering : ClientForm → Call → List Waiting → Begun → Turn
entering client k behind (On m) = Goes (place k.callee 0 behind (record m { state = entered client k m.state }))
entering client k behind (Stops o) = Ended o

-- behind a test
abbrev pub branching : ℕ → List Waiting → ℕ × ℕ → Tested → Turn
branching p behind ways (Enters m) = Goes (place p ways.0 behind m)
branching p behind ways (Skips m) = Goes (place p ways.1 behind m)
branching p behind ways (Over o) = Ended o

abbrev pub going : ℕ → List Waiting → ℕ → Begun → Turn
going p behind next (On m) = Goes (place p next behind m)
going p behind next (Stops o) = Ended o

-- behind a point that is a test or not
abbrev pub onward : ℕ → List Waiting → ℕ × ℕ → Bool → Begun → Turn
onward p behind ways true b = branching p behind ways (choosing b)
onward p behind ways false b = going p behind ways.0 b

-- at a point that makes this procedure call or none
abbrev pub turn_at : Form → ClientForm → ℕ → ℕ → List Waiting → Moment → ℕ × ℕ → Option Call → Turn
turn_at form client p number behind m ways None = onward p behind ways (is_test (point_at client p number)) (begun form client p number m)
turn_at form client p number behind m ways (Some k) = entering client k (waiting p ways.0 k m.state ∷ behind) (called_from p k.callee m)

abbrev pub turn_by : Form → ClientForm → ℕ → ℕ → List Waiting → Moment → Option (ℕ × ℕ) → Turn
turn_by form client p number behind m None = left behind m
turn_by form client p number behind m (Some ways) = turn_at form client p number behind m ways (call_at client p number)

abbrev pub turn_of : Form → ClientForm → Place → Turn
turn_of form client x = turn_by form client x.procedure x.point x.behind x.moment (ways_at client x.procedure x.point)

-- from there the run comes to this outcome
pub data Comes (form : Form) (client : ClientForm) : Place → Outcome → Type 0 where
  ended : (x : Place) (o : Outcome) → turn_of form client x ≡ Ended o → Comes form client x o
  goes : (x y : Place) (o : Outcome) → turn_of form client x ≡ Goes y → Comes form client y o → Comes form client x o

-- before the first point of the start
abbrev pub beginning : ClientForm → List Bool → ℕ → Place
beginning client choices budget = place 0 0 [] (start client choices budget)
