-- What follows from an edge, and from it and others.
use Rattle.std.specs.Prelude.{◌≡◌, ◌⊎◌, ℕ, ◌+◌, Bool, List, Contains, take}
use Rattle.client_facts.specs.Facts.{IsFact}
use Rattle.client_facts.specs.Flows.{FollowsStep}
use Rattle.client_facts.specs.Over.{EntersAt, ReturnsAt}
use Rattle.client_facts.specs.Setting.{IsCall, IsStep, Setting, exit_of}
use Rattle.client_facts.specs.declared.fact.Fact.{Fact}
use Rattle.client_facts.specs.declared.fact.Fact.TheVariants.{Always}
use Rattle.client_steps.specs.States.{Call}
use Rattle.client_walks.specs.Edges.{IsGivenBy, edge}
use Rattle.client_walks.specs.declared.edge.Edge.{Edge}

-- a call of the procedure c stands at the point n, and the point m behind it
pub record IsCallTo (g : Setting) (p n c m : ℕ) : Type 0 where
  pub call : Call
  pub there : IsCall g p n call m
  pub callee : call.callee ≡ c

-- the edge goes on with the fact to the point
pub record IsTo (g : Setting) (x : Edge) (m : ℕ) (f : Fact) (y : Edge) : Type 0 where
  pub fact : IsFact g x.procedure m f
  pub is : y ≡ edge x.procedure x.entry m f

-- the edge of an entry fact
abbrev pub IsEntry : ℕ → Fact → Edge → Type 0
IsEntry c f y = y ≡ edge c f 0 f

-- y follows from x over a step with this outcome
pub record IsNext (g : Setting) (x : Edge) (b : Bool) (y : Edge) : Type 0 where
  pub point : ℕ
  pub step : IsStep g x.procedure x.point b point
  pub fact : Fact
  pub follows : FollowsStep g x.procedure x.point x.fact fact
  pub to : IsTo g x point fact y

-- over a step
pub record IsStepped (g : Setting) (x y : Edge) : Type 0 where
  pub outcome : Bool
  pub next : IsNext g x outcome y

-- at the entry of what is called at x
pub record IsEntered (g : Setting) (x y : Edge) : Type 0 where
  pub call : Call
  pub behind : ℕ
  pub there : IsCall g x.procedure x.point call behind
  pub fact : Fact
  pub enters : (fact ≡ Always) ⊎ EntersAt g x.procedure x.point call x.fact fact
  pub is : IsEntry call.callee fact y

-- behind the call at x, from z at the exit of what is called
pub record IsReturned (g : Setting) (x z y : Edge) : Type 0 where
  pub call : Call
  pub behind : ℕ
  pub there : IsCall g x.procedure x.point call behind
  pub callee : z.procedure ≡ call.callee
  pub exit : z.point ≡ exit_of g call.callee
  pub fact : Fact
  pub returns : ReturnsAt g x.procedure x.point call x.fact z.entry z.fact fact
  pub to : IsTo g x behind fact y

-- from x and z, one at a call and the other at the exit of what is called there
abbrev pub IsReturnedBy : Setting → Edge → Edge → Edge → Type 0
IsReturnedBy g x z y = IsReturned g x z y ⊎ IsReturned g z x y

-- what the edge at the place gives with those before it, besides what those give by themselves
pub record AreSuccessors (g : Setting) (edges : List Edge) (at : ℕ) (found : List Edge) : Type 0 where
  pub sound : (y : Edge) → Contains found y → IsGivenBy g (Contains (take (at + 1) edges)) y
  pub complete : (y : Edge) → IsGivenBy g (Contains (take (at + 1) edges)) y → IsGivenBy g (Contains (take at edges)) y ⊎ Contains found y
