-- What runs keep.
use Rattle.std.specs.Prelude.{◌≡◌, ℕ, length}
use Rattle.client_model.specs.Nodes.{Tree}
use Rattle.client_model.specs.CheckedForm.{ClientForm}
use Rattle.client_model.specs.Fits.{Fits}
use Rattle.client_steps.specs.Runs.{Again, Back, Broken, Leaves, Moment, Passes, Result, Runs, RunsAll, Stopped}
use Rattle.client_steps.specs.States.{State, body_at}
use Rattle.easl_model.specs.Form.{Form}

-- the second state has as many statics and variables as the first
pub record AreAsMany (s t : State) : Type 0 where
  pub statics : length t.statics ≡ length s.statics
  pub variables : length t.variables ≡ length s.variables

-- where the run goes on, there are as many as in this state
abbrev pub KeepsLengths : State → Result → Type 0
KeepsLengths s (Passes m) = AreAsMany s m.state
KeepsLengths s (Leaves (Broken m)) = AreAsMany s m.state
KeepsLengths s (Leaves (Again m)) = AreAsMany s m.state
KeepsLengths s (Leaves (Back m)) = AreAsMany s m.state
KeepsLengths s (Leaves (Stopped o)) = Unit {0}

-- the statements of a procedure keep how many statics and variables there are
abbrev pub FramesKeepLengths : Type 0
FramesKeepLengths = (form : Form) (client : ClientForm) (p : ℕ) (x : Tree) (m : Moment) (r : Result) → Runs form client p x m r →
    KeepsLengths m.state r

-- no loop is left, or begun again, that is not there
abbrev pub IsInside : Result → Type 0
IsInside (Passes m) = Unit {0}
IsInside (Leaves (Broken m)) = ⊥
IsInside (Leaves (Again m)) = ⊥
IsInside (Leaves (Back m)) = Unit {0}
IsInside (Leaves (Stopped o)) = Unit {0}

-- the body of a procedure ends at its end, at a `return`, or with the run
abbrev pub BodiesStayInside : Type 0
BodiesStayInside = (form : Form) (client : ClientForm) → Fits form client → (p : ℕ) (m : Moment) (r : Result) →
    RunsAll form client p (body_at client p) m r → IsInside r
