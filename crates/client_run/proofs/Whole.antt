-- A whole run, from turn to turn.
use Rattle.std.proofs.Common.{◌≡◌, ℕ, Bool, List, Err}
use Rattle.client_run.specs.Answers.{Answers}
use Rattle.client_run.specs.Places.{Comes, Goes, Place, ended, goes, turn_of}
use Rattle.client_run.specs.Turns.{Finds}
use Rattle.client_run.specs.declared.runner.RunFault.{RunFault}
use Rattle.client_run.specs.declared.runner.RunFault.TheVariants as fault
use Rattle.client_run.specs.declared.runner.Runner.{Runner}
use Rattle.client_model.specs.CheckedForm.{ClientForm}
use Rattle.client_steps.specs.Runs.{Cut, IsRun, Outcome}
use Rattle.easl_model.specs.Form.{Form}

-- what the rest of a run comes to, the whole run comes to
abbrev pub IsRest : Form → ClientForm → List Bool → ℕ → Place → Type 0
IsRest form client choices budget x = (o : Outcome) → Comes form client x o → IsRun form client choices budget o

pub passes : (form : Form) (client : ClientForm) (choices : List Bool) (budget : ℕ) (x y : Place) → IsRest form client choices budget x →
    turn_of form client x ≡ Goes y → IsRest form client choices budget y
passes form client choices budget x y rest is o comes = rest o (goes x y o is comes)

pub faulted : (form : Form) (client : ClientForm) (choices : List Bool) (budget : ℕ) (x : Place) (w : Runner) (e : RunFault) →
    IsRest form client choices budget x → Finds (turn_of form client x) w (Err e) → Answers form client choices budget (Err e)
faulted form client choices budget x w fault.Memory rest finds = tt
faulted form client choices budget x w fault.Long rest finds = rest Cut (ended x Cut finds)
