-- What follows over a step, and over a procedure call under some slot choice.
use Rattle.std.specs.Prelude.{ℕ, Bool}
use Rattle.client_facts.specs.Calls.{Enters, Returns}
use Rattle.client_facts.specs.Choices.{Choice, IsChoice}
use Rattle.client_facts.specs.Facts.{IsFact}
use Rattle.client_facts.specs.Flows.{FollowsStep}
use Rattle.client_facts.specs.Setting.{IsCall, IsStep, Setting}
use Rattle.client_facts.specs.declared.fact.Fact.{Fact}
use Rattle.client_steps.specs.States.{Call}

-- the entry fact d follows from f at the call under some slot choice
pub record EntersAt (g : Setting) (p n : ℕ) (k : Call) (f d : Fact) : Type 0 where
  pub choice : Choice
  pub is_choice : IsChoice g p n choice
  pub enters : Enters g choice k f d
  pub fact : IsFact g k.callee 0 d

-- the fact h behind the call follows from e before it under a slot choice under which the entry fact d leads to the exit fact o
pub record ReturnsAt (g : Setting) (p n : ℕ) (k : Call) (e d o h : Fact) : Type 0 where
  pub choice : Choice
  pub is_choice : IsChoice g p n choice
  pub enters : Enters g choice k e d
  pub returns : Returns g choice k o h

-- a fact of a point that comes next follows so from d over the step
abbrev pub IsAfter : Setting → ℕ → ℕ → Fact → Fact → Type 0
IsAfter g p n d f = (b : Bool) × (m : ℕ) × IsStep g p n b m × FollowsStep g p n d f × IsFact g p m f

-- an entry fact follows so from f at the procedure call
abbrev pub IsEnteredFrom : Setting → ℕ → ℕ → Fact → Fact → Type 0
IsEnteredFrom g p n f d = (k : Call) × (m : ℕ) × IsCall g p n k m × EntersAt g p n k f d

-- a fact of the point behind the procedure call follows so from e before it, the entry fact d and the exit fact o
abbrev pub IsReturnedFrom : Setting → ℕ → ℕ → Fact → Fact → Fact → Fact → Type 0
IsReturnedFrom g p n e d o h = (k : Call) × (m : ℕ) × IsCall g p n k m × ReturnsAt g p n k e d o h × IsFact g p m h
