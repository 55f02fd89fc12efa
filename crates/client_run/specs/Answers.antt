-- What is answered of a run.
use Rattle.std.specs.Prelude.{ℕ, ◌<◌, Bool, List, Ok, Err, length}
use Rattle.std.specs.Prelude as prelude
use Rattle.client_run.specs.declared.runner.Outcome as made
use Rattle.client_run.specs.declared.runner.Outcome.TheVariants as ending
use Rattle.client_run.specs.declared.runner.RunFault.{RunFault}
use Rattle.client_run.specs.declared.runner.RunFault.TheVariants as fault
use Rattle.client_model.specs.declared.form.CallSite.{CallSite}
use Rattle.client_model.specs.CheckedForm.{ClientForm}
use Rattle.client_steps.specs.Runs.{Cut, Ends, Fails, IsRun, Outcome, Short}
use Rattle.easl_model.specs.Form.{Form}

-- the code's outcome
abbrev pub outcome_told : made.Outcome → Outcome
outcome_told (ending.Ends left) = Ends left
outcome_told ending.Short = Short
outcome_told (ending.Fails call clause left) = Fails call clause left

-- what is answered of a run with this budget; want of memory says nothing of it
abbrev pub Answers : Form → ClientForm → List Bool → ℕ → prelude.Result made.Outcome RunFault → Type 0
Answers form client choices budget (Ok o) = IsRun form client choices budget (outcome_told o)
Answers form client choices budget (Err fault.Memory) = Unit {0}
Answers form client choices budget (Err fault.Long) = IsRun form client choices budget Cut

-- a run that fails does so at a call that is there
abbrev pub HasCall : List CallSite → made.Outcome → Type 0
HasCall calls (ending.Ends left) = Unit {0}
HasCall calls ending.Short = Unit {0}
HasCall calls (ending.Fails call clause left) = call < length calls
