-- Facts of a procedure, and where they are true.
use Rattle.std.specs.Prelude.{◌≡◌, ◌≢◌, ℕ, ◌<◌, true, List, [], ◌∷◌, length, slice_get}
use Rattle.std.specs.List.{AllZip}
use Rattle.std.specs.Option.{option_map_or}
use Rattle.access_paths.specs.{by_objects, cube_holds}
use Rattle.access_paths.specs.declared.term.Literal.{Literal}
use Rattle.client_facts.specs.Names.{IsNameAt, Slots, object_in}
use Rattle.client_facts.specs.Setting.{Setting}
use Rattle.client_facts.specs.declared.fact.Fact.{Fact}
use Rattle.client_facts.specs.declared.fact.Fact.TheVariants.{Always, Of}
use Rattle.client_steps.specs.States.{State}

-- the classes of a family's variables, and its literals; none where there is no such family
abbrev pub classes_of : Setting → ℕ → List ℕ
classes_of g family = option_map_or (λ f. f.classes) (slice_get g.abstraction.families family) []

abbrev pub literals_of : Setting → ℕ → List Literal
literals_of g family = option_map_or (λ f. f.cube.literals) (slice_get g.abstraction.families family) []

-- a fact of the procedure at the point: a name of the right class for each variable of its family
abbrev pub IsFact : Setting → ℕ → ℕ → Fact → Type 0
IsFact g p n Always = Unit {0}
IsFact g p n (Of family args) = (family < length g.abstraction.families) × AllZip (IsNameAt g p n) (classes_of g family) args

-- the objects of names at positions of these classes
abbrev pub objects_by : (ℕ → ℕ → ℕ) → List ℕ → List ℕ → List ℕ
objects_by object [] codes = []
objects_by object (class ∷ classes) [] = []
objects_by object (class ∷ classes) (code ∷ codes) = object class code ∷ objects_by object classes codes

abbrev pub HasObject : State → Slots → ℕ → ℕ → Type 0
HasObject s slots class code = object_in s slots class code ≢ 0

-- its names all have objects, and its cube is true of them
abbrev pub Holds : Setting → State → Slots → Fact → Type 0
Holds g s slots Always = Unit {0}
Holds g s slots (Of family args) =
    AllZip (HasObject s slots) (classes_of g family) args
    × (cube_holds (by_objects s.heap (objects_by (object_in s slots) (classes_of g family) args)) (literals_of g family) ≡ true)
