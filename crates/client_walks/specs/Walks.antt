-- Walks: from the entry of a procedure to one of its points, with a walk of the called procedure at each procedure call.
use Rattle.std.specs.Prelude.{◌≡◌, ℕ, Bool, List, [], ◌∷◌, ◌++◌, Option, Some}
use Rattle.client_facts.specs.Calls.{Enters, Returns}
use Rattle.client_facts.specs.Choices.{Choice, IsChoice}
use Rattle.client_facts.specs.Facts.{IsFact}
use Rattle.client_facts.specs.Flows.{FollowsStep}
use Rattle.client_facts.specs.Setting.{IsCall, IsStep, Setting, exit_of}
use Rattle.client_facts.specs.declared.fact.Fact.{Fact}
use Rattle.client_model.specs.declared.form.Point.{Point}
use Rattle.client_model.specs.declared.form.Point.TheVariants as point
use Rattle.client_steps.specs.Deeds.{Did, done_at}
use Rattle.client_steps.specs.States.{Call, State, entered, point_at, returned}

-- a walk of the procedure to the point n: it begins at point 0, and goes on by a step, or by a call behind a walk of what is called to its exit
pub data Walk (g : Setting) : ℕ → ℕ → Type 0 where
  begin : (p : ℕ) → Walk g p 0
  step : (p n m : ℕ) (b : Bool) → Walk g p n → IsStep g p n b m → Walk g p m
  call : (p n m : ℕ) (k : Call) → Walk g p n → IsCall g p n k m → Walk g k.callee (exit_of g k.callee) → Walk g p m

-- the fact e after the procedure call follows from d before it, under one slot choice, by what follows inside
pub record FollowsCall (g : Setting) (p n : ℕ) (k : Call) (inside : Fact → Fact → Type 0) (d e : Fact) : Type 0 where
  pub choice : Choice
  pub is_choice : IsChoice g p n choice
  pub entry : Fact
  pub exit : Fact
  pub enters : Enters g choice k d entry
  pub follows : inside entry exit
  pub returns : Returns g choice k exit e

-- the fact e after the walk follows from d before it
abbrev pub Follows : (g : Setting) (p n : ℕ) → Walk g p n → Fact → Fact → Type 0
Follows g p n (begin q) d e = (d ≡ e) × IsFact g q 0 e
Follows g p n (step q l m b w is) d e = (f : Fact) × Follows g q l w d f × FollowsStep g q l f e × IsFact g q m e
Follows g p n (call q l m k w is inner) d e =
    (f : Fact) × Follows g q l w d f × FollowsCall g q l k (Follows g k.callee (exit_of g k.callee) inner) f e × IsFact g q m e

-- what is done at the point takes the one state to the other, and no clause is false
abbrev pub Does : Setting → ℕ → ℕ → State → State → Type 0
Does g p n s t = (steps : ℕ) × (done_at g.form g.client p n s ≡ Did t steps)

-- the walk takes the one state to the other, and each clause on it is true when its call is made
abbrev pub Leads : (g : Setting) (p n : ℕ) → Walk g p n → State → State → Type 0
Leads g p n (begin q) s t = s ≡ t
Leads g p n (step q l m b w is) s t = (u : State) × Leads g q l w s u × Does g q l u t
Leads g p n (call q l m k w is inner) s t =
    (u v : State) × Leads g q l w s u × Leads g k.callee (exit_of g k.callee) inner (entered g.client k u) v × (returned k u v ≡ t)

-- the outcome of a test; other points have none
abbrev pub outcome_at : Option Point → Bool → List Bool
outcome_at (Some (point.Branch number)) b = b ∷ []
outcome_at other b = []

-- the outcomes of the tests of a walk, in order
abbrev pub choices_on : (g : Setting) (p n : ℕ) → Walk g p n → List Bool
choices_on g p n (begin q) = []
choices_on g p n (step q l m b w is) = choices_on g q l w ++ outcome_at (point_at g.client q l) b
choices_on g p n (call q l m k w is inner) = choices_on g q l w ++ choices_on g k.callee (exit_of g k.callee) inner
