-- What the points of a checked client keep of names, from which it follows that steps are exact.
use Rattle.std.specs.Prelude.{◌≡◌, ◌≢◌, ◌<◌, ℕ, Bool, Option, Some, None, IfSome, length, slice_get}
use Rattle.std.specs.List.{AllZip}
use Rattle.client_facts.specs.Names.{IsNameAt}
use Rattle.client_walks.specs.PathPrograms.{StandsAt}
use Rattle.client_facts.specs.Setting.{IsCall, IsStep, Setting}
use Rattle.client_model.specs.Codes.{Name, Result, Slot, Static, Variable, name_of}
use Rattle.client_model.specs.declared.form.Point.{Point}
use Rattle.client_model.specs.declared.form.Point.TheVariants as point
use Rattle.client_steps.specs.States.{Call, point_at, variable_count}
use Rattle.easl_heap.specs.{taken_by}
use Rattle.easl_model.specs.{IsChecked}
use Rattle.easl_model.specs.declared.form.Method.{Method}
use Rattle.method_abstraction.specs.{HasExactEntries}
use Rattle.walk_laws.specs.Premises.{CallFits, IsArgument, IsFit, MayBeAssigned, MayBeUnset, StepFits}

-- each name of the next point but the one that is assigned is a name before it
abbrev pub KeepsNames : Setting → ℕ → ℕ → ℕ → Option ℕ → Type 0
KeepsNames g p n m target = (class a : ℕ) → IsNameAt g p m class a → target ≢ Some a → IsNameAt g p n class a

-- a static, a variable or the result
abbrev pub IsAssignable : Setting → ℕ → Name → Type 0
IsAssignable g p (Static k) = k < length g.client.statics
IsAssignable g p (Variable j) = j < variable_count g.client p
IsAssignable g p (Slot j) = ⊥
IsAssignable g p (Result j) = j ≡ 0

-- a name x takes what another one has, of the same class
pub record CopyFits (g : Setting) (p n m x : ℕ) (source : Option ℕ) : Type 0 where
  pub target : IsAssignable g p (name_of x)
  pub from : ℕ
  pub source_is : source ≡ Some from
  pub named : (class : ℕ) → IsNameAt g p m class x → IsArgument g p n class from
  pub after : KeepsNames g p n m (Some x)

-- a name of the class before the call; what is opaque has none
abbrev pub TakesName : Setting → ℕ → ℕ → Option ℕ → Option ℕ → Type 0
TakesName g p n None name = name ≡ None
TakesName g p n (Some class) name = (a : ℕ) × (name ≡ Some a) × IsArgument g p n class a

-- a component call that stands at the point: its method is there, and takes names of its classes
pub record IsKnown (g : Setting) (p n call : ℕ) : Type 0 where
  pub at : StandsAt g call p n
  pub method : Method
  pub there : slice_get g.form.methods at.site.method ≡ Some method
  pub args : AllZip (TakesName g p n) (taken_by method) at.site.args

-- the result of a method is assigned to a name of the result's class
pub record ResultFits (g : Setting) (p n m : ℕ) (target : Option ℕ) (method : Method) : Type 0 where
  pub target_is : IfSome target (λ x. MayBeAssigned g p (name_of x))
  pub result : (class x : ℕ) → target ≡ Some x → IsNameAt g p m class x → method.result ≡ Some class
  pub after : KeepsNames g p n m target

-- the component call of this number is made
pub record CalledFits (g : Setting) (p n m : ℕ) (target : Option ℕ) (call : ℕ) : Type 0 where
  pub known : IsKnown g p n call
  pub result : ResultFits g p n m target known.method

-- a point that is no procedure call, and goes on at m
abbrev pub PointFits : Setting → ℕ → ℕ → ℕ → Point → Type 0
PointFits g p n m (point.Copy None source) = KeepsNames g p n m None
PointFits g p n m (point.Copy (Some x) source) = CopyFits g p n m x source
PointFits g p n m (point.Component target call) = CalledFits g p n m target call
PointFits g p n m (point.Call target callee args place) = Unit {0}
PointFits g p n m (point.Branch None) = KeepsNames g p n m None
PointFits g p n m (point.Branch (Some call)) = CalledFits g p n m None call
PointFits g p n m point.Nothing = KeepsNames g p n m None

-- the component call that is made at a point
abbrev pub call_made : Option Point → Option ℕ
call_made (Some (point.Component target call)) = Some call
call_made (Some (point.Branch call)) = call
call_made here = None

-- what a checked client keeps: of steps and procedure calls, of component calls, each of which is made where it stands and nowhere else, and
-- of names before the first initialiser
pub record KeepsPoints (g : Setting) : Type 0 where
  pub steps : (p n : ℕ) (b : Bool) (m : ℕ) → (is : IsStep g p n b m) → PointFits g p n m is.here
  pub calls : (p n : ℕ) (k : Call) (m : ℕ) → IsCall g p n k m → CallFits g p n k m
  pub known : (p n call : ℕ) → call_made (point_at g.client p n) ≡ Some call → IsKnown g p n call
  pub back : (p n call : ℕ) → StandsAt g call p n → call_made (point_at g.client p n) ≡ Some call
  pub unset : (class code : ℕ) → IsNameAt g 0 0 class code → MayBeUnset (name_of code)

-- a checked specification, an abstraction with exact entries, and a client that keeps its points
pub record IsSound (g : Setting) : Type 0 where
  pub checked : IsChecked g.form
  pub exact : HasExactEntries g.form g.abstraction
  pub points : KeepsPoints g

-- so each step is exact
abbrev pub StepsAreExact : Type 0
StepsAreExact = (g : Setting) → IsSound g → (p n : ℕ) (b : Bool) (m : ℕ) → IsStep g p n b m → StepFits g p n m

-- and its steps, procedure calls and clauses keep all that the laws on walks rest on
abbrev pub SoundFits : Type 0
SoundFits = (g : Setting) → IsSound g → IsFit g
