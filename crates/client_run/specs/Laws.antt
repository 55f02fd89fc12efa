-- Laws on the definitions.
use Rattle.std.specs.Prelude.{ℕ, Bool, List}
use Rattle.client_run.specs.Graph.{AreAgreed}
use Rattle.client_run.specs.Places.{Comes, beginning}
use Rattle.client_model.specs.CheckedForm.{ClientForm}
use Rattle.client_model.specs.Fits.{Fits}
use Rattle.client_steps.specs.Runs.{IsRun, Outcome}
use Rattle.easl_model.specs.Form.{Form}

-- a run from point to point is the run by statement trees, and the other way round
pub record AreRuns (form : Form) (client : ClientForm) (choices : List Bool) (budget : ℕ) (o : Outcome) : Type 0 where
  pub trees : Comes form client (beginning client choices budget) o → IsRun form client choices budget o
  pub points : IsRun form client choices budget o → Comes form client (beginning client choices budget) o

-- where the points go on as the statements do
abbrev pub PointsAreTrees : Type 0
PointsAreTrees = (form : Form) (client : ClientForm) (choices : List Bool) (budget : ℕ) (o : Outcome) → AreAgreed client →
    AreRuns form client choices budget o

-- in the checked form of a client that is well-formed, the points go on as the statements do
abbrev pub FormsAgree : Type 0
FormsAgree = (form : Form) (client : ClientForm) → Fits form client → AreAgreed client
