-- Which facts before a step a fact after it follows from, where the step is no procedure call. After distributive subset problems.
use Rattle.std.specs.Prelude.{◌≡◌, ℕ, ◌+◌, ◌*◌, ◌==◌, List, [], ◌∷◌, ◌++◌, Contains, Option, Some, None, if◌then◌else◌, map, slice_get}
use Rattle.std.specs.List.{AllZip}
use Rattle.access_paths.specs.{no_family, put}
use Rattle.client_facts.specs.Setting.{Setting}
use Rattle.client_facts.specs.declared.fact.Fact.{Fact}
use Rattle.client_facts.specs.declared.fact.Fact.TheVariants.{Always, Of}
use Rattle.client_model.specs.declared.form.CallSite.{CallSite}
use Rattle.client_model.specs.declared.form.Point.{Point}
use Rattle.client_model.specs.declared.form.Point.TheVariants as point
use Rattle.client_steps.specs.States.{point_at}
use Rattle.easl_model.specs.declared.form.Method.{Method}
use Rattle.method_abstraction.specs.declared.entry.ClauseFacts.{ClauseFacts}
use Rattle.method_abstraction.specs.declared.entry.Disjunct.{Disjunct}
use Rattle.method_abstraction.specs.declared.entry.Disjunct.TheVariants as disjunct
use Rattle.method_abstraction.specs.declared.entry.Update.{Update}

-- the names of a fact as they were before a copy: the second name in place of the first. What is opaque has none
abbrev pub copied : Option ℕ → Option ℕ → List ℕ → List ℕ
copied (Some x) (Some y) args = map (λ a. if a == x then y else a) args
copied target source args = args

-- the positions at which the name stands, as the number whose bit k is set for the variable x(k + 1)
abbrev pub positions : Option ℕ → List ℕ → ℕ
positions None args = 0
positions (Some x) [] = 0
positions (Some x) (a ∷ args) = (if x == a then 1 else 0) + 2 * positions (Some x) args

-- the names of a component call from `this` on; a construction has no receiver
abbrev pub names_from_this : Method → CallSite → List (Option ℕ)
names_from_this m site = if m.constructor then None ∷ site.args else site.args

-- the names that stand before the call for the variables of an update question, by number: those of the fact for x1 to x3, but nothing where
-- the result stands, and then those of the call
abbrev pub names_of_update : ℕ → List ℕ → Method → CallSite → List (Option ℕ)
names_of_update results args m site = put results None (slice_get args 0 ∷ slice_get args 1 ∷ slice_get args 2 ∷ []) ++ names_from_this m site

-- and for those of a clause question, which has no family
abbrev pub names_of_clause : Method → CallSite → List (Option ℕ)
names_of_clause m site = no_family ++ names_from_this m site

-- the fact that a disjunct gives with these names for the variables
abbrev pub IsPut : List (Option ℕ) → Disjunct → Fact → Type 0
IsPut names disjunct.Always d = d ≡ Always
IsPut names (disjunct.Of family vars) d =
    (codes : List ℕ) × (d ≡ Of family codes) × AllZip (λ v code. slice_get names v.0 ≡ Some (Some code)) vars codes

-- the entry that answers the question on the method, with its result at these positions of the family
pub record IsUpdateFor (g : Setting) (method results family : ℕ) (u : Update) : Type 0 where
  pub there : Contains g.abstraction.updates u
  pub method_is : u.method ≡ method
  pub results_are : u.results ≡ results
  pub family_is : u.family ≡ family

-- a family with these names follows from d over the call of a method whose result is assigned to the name
pub record FollowsMade (g : Setting) (target : Option ℕ) (site : CallSite) (m : Method) (d : Fact) (family : ℕ) (args : List ℕ) : Type 0 where
  pub update : Update
  pub answers : IsUpdateFor g site.method (positions target args) family update
  pub chosen : Disjunct
  pub among : Contains update.disjuncts chosen
  pub put_in : IsPut (names_of_update (positions target args) args m site) chosen d

-- over the component call of this number
pub record FollowsCalled (g : Setting) (target : Option ℕ) (call : ℕ) (d : Fact) (family : ℕ) (args : List ℕ) : Type 0 where
  pub site : CallSite
  pub site_is : slice_get g.client.calls call ≡ Some site
  pub method : Method
  pub method_is : slice_get g.form.methods site.method ≡ Some method
  pub made : FollowsMade g target site method d family args

-- over what is done at a point. A procedure call is no step
abbrev pub FollowsDone : Setting → Point → Fact → ℕ → List ℕ → Type 0
FollowsDone g (point.Copy target source) d family args = d ≡ Of family (copied target source args)
FollowsDone g (point.Component target call) d family args = FollowsCalled g target call d family args
FollowsDone g (point.Call target callee names place) d family args = ⊥
FollowsDone g (point.Branch None) d family args = d ≡ Of family args
FollowsDone g (point.Branch (Some call)) d family args = FollowsCalled g None call d family args
FollowsDone g point.Nothing d family args = d ≡ Of family args

abbrev pub FollowsAt : Setting → Option Point → Fact → ℕ → List ℕ → Type 0
FollowsAt g None d family args = ⊥
FollowsAt g (Some here) d family args = FollowsDone g here d family args

-- the fact e after the step at the point n follows from d before it; what is always true follows from itself
abbrev pub FollowsStep : Setting → ℕ → ℕ → Fact → Fact → Type 0
FollowsStep g p n d Always = d ≡ Always
FollowsStep g p n d (Of family args) = FollowsAt g (point_at g.client p n) d family args

-- a fact of the clause of a component call: one whose truth makes the clause false. Clauses are counted from 1
pub record IsClauseFact (g : Setting) (call clause : ℕ) (d : Fact) : Type 0 where
  pub site : CallSite
  pub site_is : slice_get g.client.calls call ≡ Some site
  pub method : Method
  pub method_is : slice_get g.form.methods site.method ≡ Some method
  pub facts : ClauseFacts
  pub there : Contains g.abstraction.clauses facts
  pub of_method : facts.method ≡ site.method
  pub of_clause : facts.clause ≡ clause
  pub chosen : Disjunct
  pub among : Contains facts.disjuncts chosen
  pub put_in : IsPut (names_of_clause method site) chosen d
