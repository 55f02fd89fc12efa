-- What follows over a step to a point, by kinds of points.
use Rattle.std.specs.Prelude.{◌≡◌, ℕ, Bool, List, Option, None}
use Rattle.client_facts.specs.Facts.{IsFact}
use Rattle.client_facts.specs.Flows.{FollowsDone, IsPut, copied, names_of_update, positions}
use Rattle.client_facts.specs.Setting.{IsOutcome, Setting, way}
use Rattle.client_facts.specs.declared.fact.Fact.{Fact}
use Rattle.client_facts.specs.declared.fact.Fact.TheVariants.{Always, Of}
use Rattle.client_model.specs.declared.form.CallSite.{CallSite}
use Rattle.client_model.specs.declared.form.Point.{Point}
use Rattle.client_steps.specs.States.{call_in}
use Rattle.easl_model.specs.declared.form.Method.{Method}
use Rattle.method_abstraction.specs.declared.entry.Disjunct.{Disjunct}
use Rattle.method_abstraction.specs.declared.entry.Update.{Update}
use Rattle.step_flows.specs.Adding.{IsBySome}
use Rattle.step_flows.specs.Asking.{IsCalledAt}

-- it follows from d over what is done here
abbrev pub FollowsOver : Setting → Point → Fact → Fact → Type 0
FollowsOver g here d Always = d ≡ Always
FollowsOver g here d (Of family args) = FollowsDone g here d family args

-- and is a fact of the point m, which comes next
pub record ComesNext (g : Setting) (p m : ℕ) (here : Point) (d f : Fact) : Type 0 where
  pub follows : FollowsOver g here d f
  pub fact : IsFact g p m f

-- over what is done here, which is no procedure call, on a way that it may take
pub record ComesOn (g : Setting) (p : ℕ) (ways : ℕ × ℕ) (here : Point) (d f : Fact) : Type 0 where
  pub outcome : Bool
  pub plain : call_in here ≡ None
  pub may_be : IsOutcome here outcome
  pub comes : ComesNext g p (way outcome ways) here d f

-- both are what is always true
abbrev pub IsAlwaysFrom : Fact → Fact → Type 0
IsAlwaysFrom d f = (f ≡ Always) × (d ≡ Always)

-- it is this one, and a fact of the point
pub record IsThisAt (g : Setting) (p m : ℕ) (d f : Fact) : Type 0 where
  pub is : f ≡ d
  pub fact : IsFact g p m f

-- it is the family with these names, which had the others before the copy, and a fact of the point
pub record IsCopyAt (g : Setting) (p m : ℕ) (target source : Option ℕ) (family : ℕ) (before args : List ℕ) (f : Fact) : Type 0 where
  pub is : f ≡ Of family args
  pub copy : copied target source args ≡ before
  pub fact : IsFact g p m f

-- with some names
pub record IsCopied (g : Setting) (p m : ℕ) (target source : Option ℕ) (family : ℕ) (before : List ℕ) (f : Fact) : Type 0 where
  pub args : List ℕ
  pub copy : IsCopyAt g p m target source family before args f

-- it is the family with these names, of which the result has the right ones, the disjunct gives d with them, and it is a fact of the point
pub record IsMadeAt (g : Setting) (p m : ℕ) (target : Option ℕ) (results : ℕ) (method : Method) (site : CallSite) (d : Fact) (family : ℕ) (disjunct : Disjunct)
    (args : List ℕ) (f : Fact) : Type 0 where
  pub is : f ≡ Of family args
  pub places : positions target args ≡ results
  pub put_in : IsPut (names_of_update results args method site) disjunct d
  pub fact : IsFact g p m f

-- with some names
pub record IsMade (g : Setting) (p m : ℕ) (target : Option ℕ) (results : ℕ) (method : Method) (site : CallSite) (d : Fact) (family : ℕ) (disjunct : Disjunct)
    (f : Fact) : Type 0 where
  pub args : List ℕ
  pub made : IsMadeAt g p m target results method site d family disjunct args f

-- by a disjunct of an entry on the method
pub record IsMadeBy (g : Setting) (p m : ℕ) (target : Option ℕ) (method : Method) (site : CallSite) (d : Fact) (u : Update) (f : Fact) : Type 0 where
  pub of_method : u.method ≡ site.method
  pub made : IsBySome (IsMade g p m target u.results method site d u.family) u.disjuncts f

-- over the component call of this number
pub record IsMadeAfter (g : Setting) (p m : ℕ) (target : Option ℕ) (call : ℕ) (d f : Fact) : Type 0 where
  pub site : CallSite
  pub method : Method
  pub called : IsCalledAt g call site method
  pub made : IsBySome (IsMadeBy g p m target method site d) g.abstraction.updates f
