-- Which edges leave and call procedures.
use Rattle.std.specs.Prelude.{◌≡◌, ◌⊎◌, ℕ, ◌<◌, List, Contains, Some, slice_get}
use Rattle.client_facts.specs.Over.{EntersAt}
use Rattle.client_facts.specs.Setting.{IsCall, Setting, exit_of}
use Rattle.client_facts.specs.declared.fact.Fact.{Fact}
use Rattle.client_steps.specs.States.{Call}
use Rattle.client_walks.specs.declared.edge.Edge.{Edge}
use Rattle.tabulation.specs.Tables.{HasPlace, IsPlaced, PlaceLists}
use Rattle.tabulation.specs.declared.table.Context.{Context}

abbrev pub context : ℕ → Fact → Context
context p d = record { procedure = p; entry = d }

-- the edge is at the exit of the context
pub record IsExitOf (g : Setting) (x : Edge) (c : Context) : Type 0 where
  pub point : x.point ≡ exit_of g x.procedure
  pub is : c ≡ context x.procedure x.entry

-- the edge is at a call that enters the context
pub record IsCallerOf (g : Setting) (x : Edge) (c : Context) : Type 0 where
  pub call : Call
  pub behind : ℕ
  pub there : IsCall g x.procedure x.point call behind
  pub fact : Fact
  pub enters : EntersAt g x.procedure x.point call x.fact fact
  pub is : c ≡ context call.callee fact

-- of each edge before the place n each context of this kind has its place, and no other place is noted
pub record AreNoted (R : Edge → Context → Type 0) (edges : List Edge) (n : ℕ) (t : PlaceLists) : Type 0 where
  pub all : (j : ℕ) (x : Edge) (c : Context) → j < n → slice_get edges j ≡ Some x → R x c → IsPlaced t c j
  pub below : (j : ℕ) → HasPlace t j → j < n

-- the contexts of this kind have the place too
pub record IsNoted (P : Context → Type 0) (at : ℕ) (old new : PlaceLists) : Type 0 where
  pub kept : (c : Context) (j : ℕ) → IsPlaced old c j → IsPlaced new c j
  pub added : (c : Context) → P c → IsPlaced new c at
  pub only : (j : ℕ) → HasPlace new j → HasPlace old j ⊎ (j ≡ at)

-- the context of one of these entry facts
pub record IsOfFacts (callee : ℕ) (facts : List Fact) (c : Context) : Type 0 where
  pub fact : Fact
  pub among : Contains facts fact
  pub is : c ≡ context callee fact
