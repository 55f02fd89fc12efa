-- How the terms of a list come from one another.
use Rattle.std.specs.Prelude.{◌≡◌, ℕ, List, [], Contains, Option, Some, None, slice_get}
use Rattle.std.specs.List.{AllZip}
use Rattle.access_paths.specs.{field}
use Rattle.access_paths.specs.declared.term.Term.{Term}
use Rattle.alias_cases.specs.declared.steps.Step.{Step}

-- a list that has a term has the one that is one field shorter
abbrev pub IsClosed : List Term → Type 0
IsClosed ts = (t : Term) (f : ℕ) → Contains ts (field t f) → Contains ts t

-- the step leads to the term; there is none to a variable
abbrev pub IsStepTo : List Term → Term → Option Step → Type 0
IsStepTo ts t None = t.fields ≡ []
IsStepTo ts t (Some s) = (u : Term) × (slice_get ts s.shorter ≡ Some u) × (t ≡ field u s.field)

abbrev pub AreSteps : List Term → List (Option Step) → Type 0
AreSteps ts steps = AllZip (IsStepTo ts) ts steps
