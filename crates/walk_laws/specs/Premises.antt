-- What steps, procedure calls and clauses keep, so that walks are exact.
use Rattle.std.specs.Prelude.{◌≡◌, ◌≢◌, ◌<◌, ◌≤◌, ℕ, All, Bool, IfSome, Some, length, slice_get}
use Rattle.client_facts.specs.FactSlots.{HasSlot, IsFilled, IsSlotless}
use Rattle.client_facts.specs.Facts.{Holds, IsFact}
use Rattle.client_facts.specs.Flows.{FollowsStep, IsClauseFact}
use Rattle.client_facts.specs.Names.{IsNameAt, Slots, no_slots}
use Rattle.client_walks.specs.PathPrograms.{StandsAt}
use Rattle.client_facts.specs.Setting.{IsCall, IsStep, Setting, exit_of}
use Rattle.client_facts.specs.States.{IsState}
use Rattle.client_walks.specs.Walks.{Does}
use Rattle.client_facts.specs.declared.fact.Fact.{Fact}
use Rattle.client_model.specs.Codes.{Name, Result, Slot, Static, Variable, name_of, result_code}
use Rattle.client_steps.specs.Deeds.{Broke, done_at}
use Rattle.client_steps.specs.States.{Call, State, at_first, variable_count}
use Rattle.easl_heap.specs.{KeepsClasses}

-- a slot
abbrev pub MayBeUnset : Name → Type 0
MayBeUnset (Static k) = ⊥
MayBeUnset (Variable j) = ⊥
MayBeUnset (Slot j) = Unit {0}
MayBeUnset (Result j) = ⊥

-- a static or a variable that is there
abbrev pub MayBeAssigned : Setting → ℕ → Name → Type 0
MayBeAssigned g p (Static k) = k < length g.client.statics
MayBeAssigned g p (Variable j) = j < variable_count g.client p
MayBeAssigned g p (Slot j) = ⊥
MayBeAssigned g p (Result j) = ⊥

-- the same, which may stand at a position of the class before the call
pub record IsArgument (g : Setting) (p n class code : ℕ) : Type 0 where
  pub named : IsNameAt g p n class code
  pub kind : MayBeAssigned g p (name_of code)

-- what a name of the called procedure has at its entry: a static is one before the call, and a parameter has an argument
abbrev pub IsGivenAtEntry : Setting → (p n : ℕ) → Call → (class code : ℕ) → Name → Type 0
IsGivenAtEntry g p n k class code (Static number) = IsNameAt g p n class code
IsGivenAtEntry g p n k class code (Variable number) = (a : ℕ) × (slice_get k.args number ≡ Some (Some a)) × IsArgument g p n class a
IsGivenAtEntry g p n k class code (Slot number) = Unit {0}
IsGivenAtEntry g p n k class code (Result number) = ⊥

-- where a name of the caller comes from that takes no result: a static from the exit, and another one from before the call
abbrev pub IsLeftAfter : Setting → (p n : ℕ) → Call → (class code : ℕ) → Name → Type 0
IsLeftAfter g p n k class code (Static number) = IsNameAt g k.callee (exit_of g k.callee) class code
IsLeftAfter g p n k class code (Variable number) = IsNameAt g p n class code
IsLeftAfter g p n k class code (Slot number) = IsNameAt g p n class code
IsLeftAfter g p n k class code (Result number) = ⊥

-- a procedure call between two points
pub record CallFits (g : Setting) (p n : ℕ) (k : Call) (m : ℕ) : Type 0 where
  pub target : IfSome k.target (λ x. MayBeAssigned g p (name_of x))
  pub few : length k.args ≤ variable_count g.client k.callee
  pub entry : (class code : ℕ) → IsNameAt g k.callee 0 class code → IsGivenAtEntry g p n k class code (name_of code)
  pub result : (class x : ℕ) → k.target ≡ Some x → IsNameAt g p m class x → IsNameAt g k.callee (exit_of g k.callee) class result_code
  pub after : (class code : ℕ) → IsNameAt g p m class code → k.target ≢ Some code → IsLeftAfter g p n k class code (name_of code)

-- over what is done between two states, a true fact follows from a true one
abbrev pub ComesFromTrue : (g : Setting) (p n m : ℕ) (s t : State) (slots : Slots) → Type 0
ComesFromTrue g p n m s t slots =
    (e : Fact) → IsFact g p m e → Holds g t slots e → (d : Fact) × IsFact g p n d × FollowsStep g p n d e × Holds g s slots d

-- and a fact that follows from a true one is true, where its slots have objects
abbrev pub LeadsToTrue : (g : Setting) (p n m : ℕ) (s t : State) (slots : Slots) → Type 0
LeadsToTrue g p n m s t slots =
    (d e : Fact) → IsFact g p n d → IsFact g p m e → IsFilled g slots e → FollowsStep g p n d e → Holds g s slots d → Holds g t slots e

-- a step from one state to another
pub record StepKeeps (g : Setting) (p n m : ℕ) (s t : State) (slots : Slots) : Type 0 where
  pub back : ComesFromTrue g p n m s t slots
  pub forth : LeadsToTrue g p n m s t slots
  pub state : IsState g p m t slots
  pub classes : KeepsClasses s.heap t.heap

-- a step between two points is exact, and no slot comes in
pub record StepFits (g : Setting) (p n m : ℕ) : Type 0 where
  pub each : (s t : State) (slots : Slots) → IsState g p n s slots → Does g p n s t → StepKeeps g p n m s t slots
  pub keeps : (d e : Fact) → IsFact g p n d → IsFact g p m e → FollowsStep g p n d e → (class number : ℕ) → HasSlot g d class number →
      HasSlot g e class number

-- the facts of a call's clauses at its point
pub record ClauseFactsFit (g : Setting) (p n call clause : ℕ) (d : Fact) : Type 0 where
  pub fact : IsFact g p n d
  pub bare : IsSlotless g d

-- they are true exactly where a clause is false, the one or one before it
pub record ClausesFit (g : Setting) (p n : ℕ) : Type 0 where
  pub at : (s : State) (call clause : ℕ) → done_at g.form g.client p n s ≡ Broke call clause → StandsAt g call p n
  pub facts : (call clause : ℕ) (d : Fact) → StandsAt g call p n → IsClauseFact g call clause d → ClauseFactsFit g p n call clause d
  pub broke : (s : State) (call clause : ℕ) → IsState g p n s no_slots → done_at g.form g.client p n s ≡ Broke call clause →
      (d : Fact) × IsClauseFact g call clause d × Holds g s no_slots d
  pub holds : (s : State) (call clause : ℕ) (d : Fact) → IsState g p n s no_slots → StandsAt g call p n → IsClauseFact g call clause d →
      Holds g s no_slots d → (first : ℕ) × (first ≤ clause) × (done_at g.form g.client p n s ≡ Broke call first)

-- of all steps, calls and families. Before the first initialiser no name but slots has an object
pub record IsFit (g : Setting) : Type 0 where
  pub steps : (p n : ℕ) (b : Bool) (m : ℕ) → IsStep g p n b m → StepFits g p n m
  pub calls : (p n : ℕ) (k : Call) (m : ℕ) → IsCall g p n k m → CallFits g p n k m
  pub clauses : (p n : ℕ) → ClausesFit g p n
  pub few : All (λ f. length f.classes ≤ 3) g.abstraction.families
  pub some : All (λ f. 0 < length f.classes) g.abstraction.families
  pub unset : (class code : ℕ) → IsNameAt g 0 0 class code → MayBeUnset (name_of code)
  pub first : IsState g 0 0 (at_first g.client) no_slots
