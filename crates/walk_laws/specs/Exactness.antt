-- Exactness over a procedure call, along walks and along paths.
use Rattle.std.specs.Prelude.{◌↔◌, ℕ}
use Rattle.client_facts.specs.FactSlots.{IsFilled, IsSlotless}
use Rattle.client_facts.specs.Facts.{Holds, IsFact}
use Rattle.client_facts.specs.Names.{Slots, no_slots}
use Rattle.client_walks.specs.Paths.{IsTrueAlong, LeadsTo, Path}
use Rattle.client_facts.specs.Setting.{IsCall, Setting, exit_of}
use Rattle.client_facts.specs.States.{IsState}
use Rattle.client_walks.specs.Walks.{Follows, FollowsCall, Leads, Walk}
use Rattle.client_facts.specs.declared.fact.Fact.{Fact}
use Rattle.client_steps.specs.States.{Call, State, at_first, entered, returned}
use Rattle.walk_laws.specs.Premises.{IsFit}

-- a walk from one state to another: after it a fact whose slots all have objects is true exactly where one that it follows from is before
pub record IsExactBetween (g : Setting) (p n : ℕ) (w : Walk g p n) (s t : State) (slots : Slots) : Type 0 where
  pub each : (e : Fact) → IsFact g p n e → IsFilled g slots e → Holds g t slots e ↔ ((d : Fact) × Follows g p n w d e × Holds g s slots d)

-- between all states of the procedure from which it leads, and for all objects in the slots, which are the same before and after
abbrev pub IsExact : (g : Setting) (p n : ℕ) → Walk g p n → Type 0
IsExact g p n w = (s t : State) (slots : Slots) → IsState g p 0 s slots → Leads g p n w s t → IsExactBetween g p n w s t slots

-- the walk of what is called, to its exit
abbrev pub Inside : Setting → Call → Type 0
Inside g k = Walk g k.callee (exit_of g k.callee)

abbrev pub FollowsInside : (g : Setting) (k : Call) → Inside g k → Fact → Fact → Type 0
FollowsInside g k inner = Follows g k.callee (exit_of g k.callee) inner

abbrev pub LeadsInside : (g : Setting) (k : Call) → Inside g k → State → State → Type 0
LeadsInside g k inner s t = Leads g k.callee (exit_of g k.callee) inner s t

-- one procedure call from the state u, which what is called leaves in the state v
pub record IsExactCall (g : Setting) (p n m : ℕ) (k : Call) (inner : Inside g k) (u v : State) (slots : Slots) : Type 0 where
  pub each : (e : Fact) → IsFact g p m e → IsFilled g slots e →
      Holds g (returned k u v) slots e ↔ ((d : Fact) × IsFact g p n d × FollowsCall g p n k (FollowsInside g k inner) d e × Holds g u slots d)

-- a procedure call is exact under its slot choices where the walk inside is
abbrev pub CallsAreExact : Type 0
CallsAreExact =
    (g : Setting) → IsFit g → (p n m : ℕ) (k : Call) → IsCall g p n k m → (inner : Inside g k) → IsExact g k.callee (exit_of g k.callee) inner →
    (u v : State) (slots : Slots) → IsState g p n u slots → LeadsInside g k inner (entered g.client k u) v → IsExactCall g p n m k inner u v slots

-- each walk is exact
abbrev pub WalksAreExact : Type 0
WalksAreExact = (g : Setting) → IsFit g → (p n : ℕ) (w : Walk g p n) → IsExact g p n w

-- where no clause on a path is false, a fact without slots is true at its end exactly where it is true along the path
abbrev pub PathsAreExact : Type 0
PathsAreExact =
    (g : Setting) → IsFit g → (p n : ℕ) (path : Path g p n) (t : State) (e : Fact) → LeadsTo g p n path (at_first g.client) t → IsFact g p n e →
    IsSlotless g e → Holds g t no_slots e ↔ IsTrueAlong g p n path e
