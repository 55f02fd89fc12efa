-- Which variables are set at each point of a body, by number.
use Rattle.std.specs.Prelude.{◌≡◌, ℕ, true, List, [], ◌∷◌, ◌++◌, filter, flat_map, length, map}
use Rattle.std.specs.List.{range_with_len}
use Rattle.client_model.specs.Bodies.{Body, all_in, codes_of, end_of}
use Rattle.client_model.specs.BodyFaults.{faults_at}
use Rattle.client_model.specs.Codes.{static_code, variable_code}
use Rattle.client_model.specs.Contexts.{Assigned, Context, Everything, Situated, These, has}
use Rattle.client_model.specs.Kept.{IsWholeBody}
use Rattle.client_model.specs.Points.{assigned_at_exit, set_at, set_at_exit}
use Rattle.client_model.specs.Settings.{Setting, Variable}

-- the numbers of the variables declared so far that are surely assigned
abbrev pub variables_set : Context → List ℕ
variables_set c = filter (λ k. has c.assigned (variable_code k)) (range_with_len 0 c.variables)

abbrev pub variables_at : Situated → List ℕ
variables_at x = variables_set x.context

abbrev pub variables_at_exit : Body → List ℕ
variables_at_exit b = variables_set (record (end_of b) { assigned = assigned_at_exit b })

-- some names are assigned, and not everything
abbrev pub AreThese : Assigned → Type 0
AreThese (These codes) = Unit {0}
AreThese Everything = ⊥

-- at each of these statements
abbrev pub AllThese : List Situated → Type 0
AllThese [] = Unit {0}
AllThese (x ∷ rest) = AreThese x.context.assigned × AllThese rest

-- at each point and at the exit
pub record NamesOnly (b : Body) : Type 0 where
  pub points : AllThese (all_in b)
  pub exit : AreThese (assigned_at_exit b)

-- in a whole body that breaks no rule it is nowhere that everything is assigned
abbrev pub NothingIsEverything : Type 0
NothingIsEverything = (b : Body) → IsWholeBody b → AreThese b.start.assigned → flat_map faults_at (all_in b) ≡ [] → NamesOnly b

-- these statics are assigned
abbrev pub AreAssigned : List Variable → Assigned → Type 0
AreAssigned [] a = Unit {0}
AreAssigned (v ∷ rest) a = (has a v.code ≡ true) × AreAssigned rest a

-- the statics have the codes of their numbers
abbrev pub AreNumbered : Setting → Type 0
AreNumbered s = codes_of s.statics ≡ map static_code (range_with_len 0 (length s.statics))

abbrev pub names_by : List Variable → List ℕ → List ℕ
names_by statics numbers = codes_of statics ++ map variable_code numbers

-- where all statics are assigned at the start of a body, the names that are set at each point and at the exit are the statics and
-- the variables that are set there
abbrev pub SetsAreByNumber : Type 0
SetsAreByNumber =
    (b : Body) → AreAssigned b.setting.statics b.start.assigned
    → map set_at (all_in b) ++ set_at_exit b ∷ [] ≡ map (names_by b.setting.statics) (map variables_at (all_in b) ++ variables_at_exit b ∷ [])
