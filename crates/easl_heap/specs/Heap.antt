-- The heap: objects, numbered from 1.
use Rattle.std.specs.Prelude.{◌≡◌, ℕ, zero, suc, ◌<◌, List, [], ◌∷◌, All, length, replicate, Option, Some, None, slice_get, slice_index, slice_set}
use Rattle.std.specs.Option.{option_map, option_map_or}
use Rattle.std.specs.List.{fold, AllZip}
use Rattle.easl_model.specs.{fields_of}
use Rattle.easl_model.specs.Form.{Form}
use Rattle.easl_model.specs.declared.form.Reach.{Reach}

-- its class, and for each field position the number of an object
pub record Object : Type 0 where
  pub class : ℕ
  pub fields : List ℕ

-- the object of a number; object 0 is the unset one
abbrev pub object_at : List Object → ℕ → Option Object
object_at heap zero = None
object_at heap (suc n) = slice_get heap n

-- what a field of an object holds: 0 for object 0, and where there is no such position
abbrev pub get : List Object → ℕ → ℕ → ℕ
get heap object field = option_map_or (λ o. slice_index o.fields field) (object_at heap object) 0

-- what the fields lead to from a slot
abbrev pub reached : List Object → List ℕ → Reach → ℕ
reached heap slots path = fold (get heap) (slice_index slots path.slot) path.fields

abbrev pub with_field : ℕ → ℕ → Object → Object
with_field field value o = record o { fields = slice_set o.fields field value }

-- the heap after the write of a field; where there is no such position it stays
abbrev pub write : List Object → ℕ → ℕ → ℕ → List Object
write heap zero field value = heap
write [] (suc n) field value = []
write (o ∷ heap) (suc zero) field value = with_field field value o ∷ heap
write (o ∷ heap) (suc (suc n)) field value = o ∷ write heap (suc n) field value

-- an object of a class with no field assigned
abbrev pub fresh : Form → ℕ → Object
fresh form class = record { class = class; fields = replicate (length (fields_of form class)) 0 }

abbrev pub IsObjectOf : List Object → ℕ → ℕ → Type 0
IsObjectOf heap class n = option_map (λ o. o.class) (object_at heap n) ≡ Some class

pub record IsFullObject (form : Form) (heap : List Object) (o : Object) : Type 0 where
  pub class : o.class < length form.classes
  pub fields : AllZip (IsObjectOf heap) (fields_of form o.class) o.fields

-- each field of each object holds an object of the field's class
abbrev pub IsFull : Form → List Object → Type 0
IsFull form heap = All (IsFullObject form heap) heap
