-- Straight clients: no statement calls a procedure or tests, so that a run takes no choice.
use Rattle.std.specs.Prelude.{ℕ, ◌<◌, Bool, true, false, not, ◌&&◌, ◌==◌, List, [], Option, Some, None, length}
use Rattle.std.specs.List.{list_any}
use Rattle.std.specs.Option.{option_map_or}
use Rattle.client_run.specs.declared.runner.Outcome.{Outcome}
use Rattle.client_run.specs.declared.runner.Outcome.TheVariants as ending
use Rattle.client_run.specs.declared.straight.Failure.{Failure}
use Rattle.client_model.specs.declared.form.Point.{Point}
use Rattle.client_model.specs.declared.form.Point.TheVariants as point
use Rattle.client_model.specs.CheckedForm.{ClientForm}
use Rattle.client_steps.specs.Runs.{Fails, IsRun, IsSafe}
use Rattle.client_steps.specs.States.{procedure_at}
use Rattle.easl_model.specs.Form.{Form}

-- a procedure is called there, or the outcome of a test is done
abbrev pub calls_or_tests : Point → Bool
calls_or_tests (point.Call target procedure args place) = true
calls_or_tests (point.Branch call) = true
calls_or_tests (point.Copy target source) = false
calls_or_tests (point.Component target call) = false
calls_or_tests point.Nothing = false

-- the points of the first procedure of the text
abbrev pub first_points : ClientForm → List Point
first_points client = option_map_or (λ x. x.points) (procedure_at client 1) []

-- the client has no static, no procedure but `main` beside the start, no procedure call in it, and no test
abbrev pub is_straight : ClientForm → Bool
is_straight client = (length client.statics == 0) && ((length client.procedures == 2) && not (list_any calls_or_tests (first_points client)))

-- the failure that a run ends in, if it does
abbrev pub failure_of : Outcome → Option Failure
failure_of (ending.Fails call clause left) = Some (record { call = call; clause = clause })
failure_of (ending.Ends left) = None
failure_of ending.Short = None

-- what is found of a straight client: it is safe, or it fails on no choices, at a call that is there
abbrev pub Finds : Form → ClientForm → Option Failure → Type 0
Finds form client None = IsSafe form client
Finds form client (Some f) = (f.call < length client.calls) × ((budget : ℕ) × IsRun form client [] budget (Fails f.call f.clause 0))
