-- The variables of a question by number, with their classes and objects: x1 to x3 of the family, `this`, and the parameters.
use Rattle.std.specs.Prelude.{◌≡◌, ◌==◌, ◌/◌, ◌%◌, ℕ, ◌<◌, true, false, List, [], ◌∷◌, ◌++◌, Option, Some, None, drop, if◌then◌else◌, slice_get}
use Rattle.std.specs.List.{AllZip}
use Rattle.easl_model.specs.declared.form.Method.{Method}
use Rattle.easl_heap.specs.{IsGiven, Object}
use Rattle.access_paths.specs.declared.term.Family.{Family}

-- something stands at the positions whose bits are set
abbrev pub put : {A : Type 0} → ℕ → A → List A → List A
put positions x [] = []
put positions x (y ∷ ys) = (if positions % 2 == 1 then x else y) ∷ put (positions / 2) x ys

-- the classes of x1 to x3, None where one is not there
abbrev pub family_classes : Family → List (Option ℕ)
family_classes f = slice_get f.classes 0 ∷ slice_get f.classes 1 ∷ slice_get f.classes 2 ∷ []

-- before the call: those at the result positions stand for what is not there yet
abbrev pub before_call : Family → ℕ → List (Option ℕ)
before_call family results = put results None (family_classes family)

-- a clause question has no family
abbrev pub no_family : List (Option ℕ)
no_family = None ∷ None ∷ None ∷ []

-- the classes of all variables, None where one has no object: x1 to x3 as told, the receiver, and the parameters
abbrev pub variables_of : Method → List (Option ℕ) → List (Option ℕ)
variables_of m xs = xs ++ ((if m.constructor then None else Some m.class) ∷ m.params)

-- each variable that has an object has one of its class, and the others have 0
abbrev pub AreObjects : List Object → List (Option ℕ) → List ℕ → Type 0
AreObjects heap variables objects = AllZip (IsGiven heap) variables objects

-- the receiver, where there is one, and the arguments
abbrev pub arguments_in : Method → List ℕ → List ℕ
arguments_in m objects = drop (if m.constructor then 4 else 3) objects

-- each result position is one of the family, of the method's result class
pub record AreResults (m : Method) (family : Family) (results : ℕ) : Type 0 where
  pub few : results < 8
  pub each : (n : ℕ) → slice_get (put results true (false ∷ false ∷ false ∷ [])) n ≡ Some true
      → (class : ℕ) × (slice_get family.classes n ≡ Some class) × (m.result ≡ Some class)
