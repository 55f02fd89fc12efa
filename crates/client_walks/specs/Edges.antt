-- Edges: on a matched path from a procedure's entry, where the first fact is true, the second becomes true at the point. After Reps, Horwitz
-- and Sagiv.
use Rattle.std.specs.Prelude.{ℕ, Bool, List, Contains}
use Rattle.client_facts.specs.Facts.{IsFact}
use Rattle.client_facts.specs.Flows.{FollowsStep}
use Rattle.client_facts.specs.Over.{EntersAt, ReturnsAt}
use Rattle.client_facts.specs.Setting.{IsCall, IsStep, Setting, exit_of}
use Rattle.client_walks.specs.declared.edge.Edge.{Edge}
use Rattle.client_facts.specs.declared.fact.Fact.{Fact}
use Rattle.client_facts.specs.declared.fact.Fact.TheVariants.{Always}
use Rattle.client_steps.specs.States.{Call}

abbrev pub edge : ℕ → Fact → ℕ → Fact → Edge
edge p d n e = record { procedure = p; entry = d; point = n; fact = e }

abbrev pub first_edge : Edge
first_edge = edge 0 Always 0 Always

-- what one rule gives from edges of which S holds
pub data IsGivenBy (g : Setting) (S : Edge → Type 0) : Edge → Type 0 where
  steps : (p n m : ℕ) (b : Bool) (d e f : Fact) → S (edge p d n e) → IsStep g p n b m → FollowsStep g p n e f → IsFact g p m f →
      IsGivenBy g S (edge p d m f)
  calls : (p n m : ℕ) (k : Call) (d e : Fact) → S (edge p d n e) → IsCall g p n k m → IsGivenBy g S (edge k.callee Always 0 Always)
  enters : (p n m : ℕ) (k : Call) (d e f : Fact) → S (edge p d n e) → IsCall g p n k m → EntersAt g p n k e f →
      IsGivenBy g S (edge k.callee f 0 f)
  returns : (p n m : ℕ) (k : Call) (d e f o h : Fact) → S (edge p d n e) → IsCall g p n k m → S (edge k.callee f (exit_of g k.callee) o) →
      ReturnsAt g p n k e f o h → IsFact g p m h → IsGivenBy g S (edge p d m h)

-- an edge of the least list
pub data IsEdge (g : Setting) : Edge → Type 0 where
  first : IsEdge g first_edge
  by_step : (p n m : ℕ) (b : Bool) (d e f : Fact) → IsEdge g (edge p d n e) → IsStep g p n b m → FollowsStep g p n e f → IsFact g p m f →
      IsEdge g (edge p d m f)
  by_call : (p n m : ℕ) (k : Call) (d e : Fact) → IsEdge g (edge p d n e) → IsCall g p n k m → IsEdge g (edge k.callee Always 0 Always)
  by_entry : (p n m : ℕ) (k : Call) (d e f : Fact) → IsEdge g (edge p d n e) → IsCall g p n k m → EntersAt g p n k e f →
      IsEdge g (edge k.callee f 0 f)
  by_return : (p n m : ℕ) (k : Call) (d e f o h : Fact) → IsEdge g (edge p d n e) → IsCall g p n k m →
      IsEdge g (edge k.callee f (exit_of g k.callee) o) → ReturnsAt g p n k e f o h → IsFact g p m h → IsEdge g (edge p d m h)

-- a list that holds the first edge, and what the rules give from its edges
pub record IsClosedList (g : Setting) (edges : List Edge) : Type 0 where
  pub holds_first : Contains edges first_edge
  pub closed : (x : Edge) → IsGivenBy g (Contains edges) x → Contains edges x

-- the closed list: the least of these lists
pub record IsLeastList (g : Setting) (edges : List Edge) : Type 0 where
  pub closed : IsClosedList g edges
  pub least : (other : List Edge) → IsClosedList g other → (x : Edge) → Contains edges x → Contains other x
