-- What the code has done, in the words of runs.
use Rattle.std.specs.Prelude.{◌≡◌, ℕ, Bool, List, [], ◌∷◌, Option, Some, None, length}
use Rattle.std.specs.Option.{option_map_or}
use Rattle.client_run.specs.Places.{Standing, Waiting, resumed}
use Rattle.client_run.specs.declared.state.Begun.{Begun as Made}
use Rattle.client_run.specs.declared.state.Begun.TheVariants as begins
use Rattle.client_run.specs.declared.state.Call.{Call as Calling}
use Rattle.client_run.specs.declared.state.Deed.{Deed as Doing}
use Rattle.client_run.specs.declared.state.Deed.TheVariants as doing
use Rattle.client_model.specs.CheckedForm.{ClientForm}
use Rattle.client_model.specs.declared.form.Point.{Point}
use Rattle.client_steps.specs.Deeds.{Broke, Deed, Did, done}
use Rattle.client_steps.specs.Runs.{Begun, Cut, Fails, Moment, On, Stops, begun}
use Rattle.client_steps.specs.States.{Call, State}
use Rattle.easl_model.specs.Form.{Form}

-- a clause is false, or the state is now this
abbrev pub Comes : State → Doing → Deed → Type 0
Comes new (doing.Broke call clause) d = d ≡ Broke call clause
Comes new (doing.Did steps) d = d ≡ Did new steps

-- what is done at the point, if there is one
abbrev pub done_by : Form → ClientForm → Option Point → State → Deed
done_by form client here s = option_map_or (λ x. done form client x s) here (Did s 0)

-- the code's call
abbrev pub call_told : Calling → Call
call_told k = record { target = k.target; callee = k.callee; args = k.args.now }

abbrev pub moment : State → List Bool → ℕ → Moment
moment s choices budget = record { state = s; choices = choices; budget = budget }

-- what became of a statement that was begun
abbrev pub begun_told : State → List Bool → Made → Begun
begun_told s choices (begins.Left budget) = On (moment s choices budget)
begun_told s choices (begins.Broke call clause) = Stops (Fails call clause (length choices))
begun_told s choices begins.Cut = Stops Cut

-- the code did what is done where the statement is begun, whatever choices are left
abbrev pub Begins : Form → ClientForm → ℕ → ℕ → ℕ → State → State → Made → Type 0
Begins form client p number budget before now b =
    (choices : List Bool) → begun_told now choices b ≡ begun form client p number (moment before choices budget)

-- the code went back to the procedure that waits first, if there is one
abbrev pub Resumes : Standing → Standing → List Waiting → Option (ℕ × ℕ) → Type 0
Resumes old new [] result = result ≡ None
Resumes old new (w ∷ behind) result =
    (result ≡ Some (w.procedure, w.point)) × (new ≡ record { state = resumed w old.state; behind = behind })
