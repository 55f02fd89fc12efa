-- What paths lead to.
use Rattle.std.specs.Prelude.{ℕ, zero, suc, Bool, true, false, List, [], ◌∷◌, Option, Some, None, slice_get}
use Rattle.std.specs.List.{fold}
use Rattle.std.specs.Option.{option_map_or}
use Rattle.easl_model.specs.declared.tree.Path.{Path}
use Rattle.easl_model.specs.declared.tree.Spec.{Spec}
use Rattle.easl_model.specs.declared.tree.Word.{Word}
use Rattle.easl_model.specs.Contexts.{variable_named}
use Rattle.easl_model.specs.Names.{field_named}
use Rattle.easl_model.specs.declared.scope.Context.{Context}
use Rattle.easl_model.specs.declared.scope.Target.{Target}
use Rattle.easl_model.specs.declared.scope.Target.TheVariants.{Object, Opaque, Unknown}

-- a path goes from a slot along names; slot 0 is `this`
pub record Way : Type 0 where
  pub slot : ℕ
  pub names : List Word

-- a plain name is a variable of that name, else the field of that name of `this`
abbrev pub named_way : Word → List Word → Option ℕ → Way
named_way w fields (Some n) = record { slot = suc n; names = fields }
named_way w fields None = record { slot = 0; names = w ∷ fields }

abbrev pub way_by : Context → Option Word → List Word → Way
way_by c None fields = record { slot = 0; names = fields }
way_by c (Some w) fields = named_way w fields (variable_named c w.name)

abbrev pub way_of : Context → Path → Way
way_of c path = way_by c path.head path.fields

-- whether the path is `this` alone
abbrev pub is_this_by : Option Word → List Word → Bool
is_this_by None [] = true
is_this_by None (w ∷ ws) = false
is_this_by (Some w) fields = false

abbrev pub is_this : Path → Bool
is_this path = is_this_by path.head path.fields

-- the first name behind `this`, where the way goes from there
abbrev pub from_this : Way → Option Word
from_this way = first_name way.slot way.names
  where
    first_name : ℕ → List Word → Option Word
    first_name zero [] = None
    first_name zero (w ∷ names) = Some w
    first_name (suc n) names = None

-- the field of `this` that the way is
abbrev pub field_of_this : Way → Option Word
field_of_this way = only_name way.slot way.names
  where
    only_name : ℕ → List Word → Option Word
    only_name zero [] = None
    only_name zero (w ∷ []) = Some w
    only_name zero (w ∷ v ∷ names) = None
    only_name (suc n) names = None

-- all names but the last
abbrev pub but_last : List Word → List Word
but_last [] = []
but_last (w ∷ []) = []
but_last (w ∷ v ∷ names) = w ∷ but_last (v ∷ names)

abbrev pub owner_of : Way → Way
owner_of way = record { slot = way.slot; names = but_last way.names }

-- an object of the class, or an opaque value
abbrev pub valued : Option ℕ → Target
valued None = Opaque
valued (Some class) = Object class

-- what a slot holds
abbrev pub slot_target : Context → ℕ → Target
slot_target c zero = Object c.class
slot_target c (suc n) = option_map_or (λ v. valued v.class) (slice_get c.variables n) Opaque

-- what one more name leads to; an opaque value has no fields
abbrev pub along : Spec → Target → Word → Target
along spec (Object class) w = option_map_or (λ f. valued f.class) (field_named spec class w.name) (Unknown w.place)
along spec Opaque w = Unknown w.place
along spec (Unknown place) w = Unknown place

abbrev pub end_of : Spec → Context → Way → Target
end_of spec c way = fold (along spec) (slot_target c way.slot) way.names

abbrev pub target_of : Spec → Context → Path → Target
target_of spec c path = end_of spec c (way_of c path)
