-- A run turn by turn, in the code's words.
use Rattle.std.specs.Prelude.{◌≡◌, ℕ, zero, suc, ◌+◌, ◌-◌, ◌*◌, List, [], ◌∷◌, Option, Some, None, Ok, Err}
use Rattle.std.specs.Prelude as prelude
use Rattle.client_run.specs.Answers.{outcome_told}
use Rattle.client_run.specs.Deeds.{moment}
use Rattle.client_run.specs.Graph.{is_test}
use Rattle.client_run.specs.Places.{Ended, Goes, Place, Turn, Waiting, entering, onward, place, waiting}
use Rattle.client_run.specs.declared.runner.Outcome as made
use Rattle.client_run.specs.declared.runner.RunFault.{RunFault}
use Rattle.client_run.specs.declared.runner.RunFault.TheVariants as fault
use Rattle.client_run.specs.declared.runner.Runner.{Runner}
use Rattle.client_model.specs.declared.form.Point.{Point}
use Rattle.client_model.specs.CheckedForm.{ClientForm}
use Rattle.client_steps.specs.Runs.{Begun, Cut, Moment, On, Stops, begun, called_from}
use Rattle.client_steps.specs.States.{Call}
use Rattle.easl_model.specs.Form.{Form}

abbrev pub moment_in : Runner → Moment
moment_in w = moment w.state.state w.choices.now w.budget

abbrev pub place_in : Runner → Place
place_in w = place w.procedure w.point w.state.behind (moment_in w)

-- the run goes on where the code stands, or is over
abbrev pub Reaches : Turn → Runner → Option made.Outcome → Type 0
Reaches t w None = t ≡ Goes (place_in w)
Reaches t w (Some o) = t ≡ Ended (outcome_told o)

-- the code found what the turn comes to; want of memory says nothing of it
abbrev pub Finds : Turn → Runner → prelude.Result (Option made.Outcome) RunFault → Type 0
Finds t w (Ok found) = Reaches t w found
Finds t w (Err fault.Memory) = Unit {0}
Finds t w (Err fault.Long) = t ≡ Ended Cut

-- the turn at this point, which makes this procedure call or none
abbrev pub turn_here : Form → ClientForm → Place → ℕ × ℕ → Option Point → Option Call → Turn
turn_here form client x ways here None = onward x.procedure x.behind ways (is_test here) (begun form client x.procedure x.point x.moment)
turn_here form client x ways here (Some k) =
    entering client k (waiting x.procedure ways.0 k x.moment.state ∷ x.behind) (called_from x.procedure k.callee x.moment)

-- so many units are left, or there was none to take
abbrev pub left_of : Moment → Option ℕ → Begun
left_of m None = Stops Cut
left_of m (Some budget) = On (record m { budget = budget })

-- in the start, whose exit this is, each point brings it nearer
abbrev pub weight : ℕ → ℕ → ℕ → ℕ
weight exit zero number = 2 * (exit - number)
weight exit (suc p) number = 0

abbrev pub height : ℕ → ℕ → ℕ → List Waiting → ℕ
height exit p number [] = weight exit p number
height exit p number (w ∷ behind) = weight exit p number + suc (height exit w.procedure w.point behind)

-- each turn takes a unit, leaves a procedure, or goes on in the start
abbrev pub measure : ℕ → Place → ℕ
measure exit x = 2 * x.moment.budget + height exit x.procedure x.point x.behind
