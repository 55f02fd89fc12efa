-- What is named in a specification, and what names stand for.
use Rattle.std.specs.Prelude.{ℕ, suc, Bool, List, [], ◌∷◌, Option, Some, None, if◌then◌else◌, nat_eq, slice_get}
use Rattle.std.specs.Cmp.Lexicographic.{pointwise}
use Rattle.std.specs.List.{position_from}
use Rattle.std.specs.Option.{option_map_or}
use Rattle.easl_model.specs.declared.scope.FieldAt.{FieldAt}
use Rattle.easl_model.specs.declared.tree.Code.{Code}
use Rattle.easl_model.specs.declared.tree.Field as tree
use Rattle.easl_model.specs.declared.tree.Member.{Member}
use Rattle.easl_model.specs.declared.tree.Member.TheVariants.{Field, Constructor, Method}
use Rattle.easl_model.specs.declared.tree.Sort.{Sort}
use Rattle.easl_model.specs.declared.tree.Sort.TheVariants as sort
use Rattle.easl_model.specs.declared.tree.Spec.{Spec}

-- the members of the class with this number
abbrev pub members_of : Spec → ℕ → List Member
members_of spec class = option_map_or (λ c. c.members) (slice_get spec.classes class) []

abbrev pub fields_in : List Member → List tree.Field
fields_in [] = []
fields_in (Field f ∷ rest) = f ∷ fields_in rest
fields_in (Constructor code ∷ rest) = fields_in rest
fields_in (Method code ∷ rest) = fields_in rest

abbrev pub constructors_in : List Member → List Code
constructors_in [] = []
constructors_in (Field f ∷ rest) = constructors_in rest
constructors_in (Constructor code ∷ rest) = code ∷ constructors_in rest
constructors_in (Method code ∷ rest) = constructors_in rest

abbrev pub methods_in : List Member → List Code
methods_in [] = []
methods_in (Field f ∷ rest) = methods_in rest
methods_in (Constructor code ∷ rest) = methods_in rest
methods_in (Method code ∷ rest) = code ∷ methods_in rest

-- the constructors and methods in text order
abbrev pub codes_in : List Member → List Code
codes_in [] = []
codes_in (Field f ∷ rest) = codes_in rest
codes_in (Constructor code ∷ rest) = code ∷ codes_in rest
codes_in (Method code ∷ rest) = code ∷ codes_in rest

-- the constructor that is written among these members
abbrev pub constructor_in : List Member → Option Code
constructor_in [] = None
constructor_in (Field f ∷ rest) = constructor_in rest
constructor_in (Constructor code ∷ rest) = Some code
constructor_in (Method code ∷ rest) = constructor_in rest

-- whether two names are one
abbrev pub is_same : List ℕ → List ℕ → Bool
is_same = pointwise nat_eq

-- the number of the class of this name
abbrev pub class_named : Spec → List ℕ → Option ℕ
class_named spec name = position_from (λ c. is_same c.name.name name) 0 spec.classes

-- the class that a type names; None where it is opaque. A name that is no class counts as opaque: it breaks a rule of its own
abbrev pub class_of : Spec → Sort → Option ℕ
class_of spec sort.Void = None
class_of spec (sort.Opaque kind) = None
class_of spec (sort.Class w) = class_named spec w.name

-- the first of these fields, numbered from here on, that has the name
abbrev pub field_among : Spec → ℕ → List tree.Field → List ℕ → Option FieldAt
field_among spec n [] name = None
field_among spec n (f ∷ fs) name =
    if is_same f.name.name name
    then Some (record { position = n; class = class_named spec f.class.name })
    else field_among spec (suc n) fs name

-- the class's field of the name
abbrev pub field_named : Spec → ℕ → List ℕ → Option FieldAt
field_named spec class name = field_among spec 0 (fields_in (members_of spec class)) name
