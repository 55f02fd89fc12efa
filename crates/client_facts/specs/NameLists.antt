-- The codes of a client's names by class.
use Rattle.std.specs.Prelude.{◌≡◌, ℕ, suc, List, [], ◌∷◌, ◌++◌, Contains, Option, Some, if◌then◌else◌, map, slice_get, unwrap_or}
use Rattle.std.specs.Global.{Vec}
use Rattle.client_facts.specs.Counts.{is_of}
use Rattle.client_facts.specs.Setting.{Setting, variables_of}
use Rattle.client_model.specs.Codes.{static_code, variable_code}

-- by class, the codes of the statics, and of each procedure's parameters and locals
pub record NameLists : Type 0 where
  pub statics : List (List ℕ)
  pub variables : List (List (List ℕ))

-- none at a class that is not there
abbrev pub at_class : List (List ℕ) → ℕ → List ℕ
at_class lists class = unwrap_or (slice_get lists class) []

abbrev pub of_procedure : List (List (List ℕ)) → ℕ → List (List ℕ)
of_procedure tables p = unwrap_or (slice_get tables p) []

abbrev pub statics_with : NameLists → ℕ → List ℕ
statics_with names class = at_class names.statics class

abbrev pub variables_with : NameLists → ℕ → ℕ → List ℕ
variables_with names p class = at_class (of_procedure names.variables p) class

-- the code of one of these names that is of the class
pub record IsCodeOf (code_of : ℕ → ℕ) (kinds : List (Option ℕ)) (class code : ℕ) : Type 0 where
  pub number : ℕ
  pub known : slice_get kinds number ≡ Some (Some class)
  pub is : code ≡ code_of number

-- the codes of all names of the class, and no others
pub record AreCodesOf (code_of : ℕ → ℕ) (kinds : List (Option ℕ)) (class : ℕ) (codes : List ℕ) : Type 0 where
  pub only : (code : ℕ) → Contains codes code → IsCodeOf code_of kinds class code
  pub all : (code : ℕ) → IsCodeOf code_of kinds class code → Contains codes code

pub record AreNamesOf (g : Setting) (names : NameLists) : Type 0 where
  pub statics : (class : ℕ) → AreCodesOf static_code g.client.statics class (statics_with names class)
  pub variables : (p class : ℕ) → AreCodesOf variable_code (variables_of g p) class (variables_with names p class)

-- the codes of names of the class, of which the first has this number
abbrev pub codes_from : (ℕ → ℕ) → ℕ → ℕ → List (Option ℕ) → List ℕ
codes_from code_of number class [] = []
codes_from code_of number class (kind ∷ kinds) =
    (if is_of class kind then code_of number ∷ [] else []) ++ codes_from code_of (suc number) class kinds

-- at each class these are listed
abbrev pub AreListed : (ℕ → ℕ) → List (Option ℕ) → List (List ℕ) → Type 0
AreListed code_of kinds lists = (class : ℕ) → at_class lists class ≡ codes_from code_of 0 class kinds

-- at each class of the name the code comes behind the others
abbrev pub IsListed : Option ℕ → ℕ → List (List ℕ) → List (List ℕ) → Type 0
IsListed kind code old new = (class : ℕ) → at_class new class ≡ at_class old class ++ (if is_of class kind then code ∷ [] else [])

-- as the code holds them
abbrev pub lists_in : List (Vec ℕ) → List (List ℕ)
lists_in lists = map (λ v. v.items) lists

abbrev pub tables_in : List (Vec (Vec ℕ)) → List (List (List ℕ))
tables_in tables = map (λ t. lists_in t.items) tables
