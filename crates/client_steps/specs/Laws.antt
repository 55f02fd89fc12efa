-- Laws on runs.
use Rattle.std.specs.Prelude.{◌≡◌, ◌≢◌, ℕ, ◌-◌, ◌≤◌, Bool, List, length, take}
use Rattle.client_model.specs.CheckedForm.{ClientForm}
use Rattle.client_steps.specs.Runs.{Cut, Fails, IsRun, IsSafe, Outcome}
use Rattle.easl_model.specs.Form.{Form}

-- for each client, choices and budget there is an outcome
abbrev pub RunsExist : Type 0
RunsExist = (form : Form) (client : ClientForm) (choices : List Bool) (budget : ℕ) → (o : Outcome) × IsRun form client choices budget o

-- and no other
abbrev pub RunsOnce : Type 0
RunsOnce = (form : Form) (client : ClientForm) (choices : List Bool) (budget : ℕ) (o p : Outcome) → IsRun form client choices budget o →
    IsRun form client choices budget p → o ≡ p

-- a greater budget keeps every outcome but that of a run that is cut
abbrev pub MoreKeeps : Type 0
MoreKeeps = (form : Form) (client : ClientForm) (choices : List Bool) (less more : ℕ) (o : Outcome) → IsRun form client choices less o → o ≢ Cut →
    less ≤ more → IsRun form client choices more o

-- a run that fails with some choices left fails on the choices that it took with none left
abbrev pub FailsOnTaken : Type 0
FailsOnTaken = (form : Form) (client : ClientForm) (choices : List Bool) (budget call clause left : ℕ) →
    IsRun form client choices budget (Fails call clause left) →
    (left ≤ length choices) × IsRun form client (take (length choices - left) choices) budget (Fails call clause 0)

-- so all budgets that cut no run give it one outcome
abbrev pub UncutIsOne : Type 0
UncutIsOne = (form : Form) (client : ClientForm) (choices : List Bool) (budget other : ℕ) (o p : Outcome) → IsRun form client choices budget o →
    IsRun form client choices other p → o ≢ Cut → p ≢ Cut → o ≡ p

-- so a client is safe where no run fails that has no choice left
abbrev pub SafeBySpent : Type 0
SafeBySpent = (form : Form) (client : ClientForm) → ((choices : List Bool) (budget call clause : ℕ) →
    IsRun form client choices budget (Fails call clause 0) → ⊥) → IsSafe form client
