-- The calls of constructors, class by class, and who reaches whom in so many rounds.
use Rattle.std.specs.Prelude.{ℕ, zero, suc, Bool, false, ◌==◌, ◌||◌, List, [], ◌∷◌, ◌++◌, Option, Some, None, length, map, slice_get, unwrap_or}
use Rattle.std.specs.List.{flat_map, list_any}
use Rattle.std.specs.Option.{option_map_or}
use Rattle.easl_model.specs.{block_of, broken_if, class_named, constructor_in, news_in}
use Rattle.easl_model.specs.declared.fault.Fault.{Fault}
use Rattle.easl_model.specs.declared.fault.Rule.TheVariants as rule
use Rattle.easl_model.specs.declared.place.Place.{Place}
use Rattle.easl_model.specs.declared.tree.Class.{Class}
use Rattle.easl_model.specs.declared.tree.New.{New}
use Rattle.easl_model.specs.declared.tree.Spec.{Spec}
use Rattle.easl_types.specs.declared.cycles.Call.{Call}

abbrev pub call_at : Place → Option ℕ → List Call
call_at place None = []
call_at place (Some class) = record { class = class; place = place } ∷ []

-- the call that a construction is, where its class is there
abbrev pub call_of : Spec → New → List Call
call_of spec new = call_at new.place (class_named spec new.class.name)

abbrev pub calls_of_class : Spec → Class → List Call
calls_of_class spec c = flat_map (call_of spec) (option_map_or (λ code. news_in (block_of code.body)) (constructor_in c.members) [])

abbrev pub calls_of_classes : Spec → List Class → List (List Call)
calls_of_classes spec classes = map (calls_of_class spec) classes

-- whether the class is marked in the row
abbrev pub is_set : List Bool → ℕ → Bool
is_set row class = unwrap_or (slice_get row class) false

-- whether the call is of the other class, or of one that is marked
abbrev pub leads_to : List Bool → ℕ → Call → Bool
leads_to row other call = (call.class == other) || is_set row call.class

-- marks the classes one of whose calls leads to the other class
abbrev pub next_row : List (List Call) → ℕ → List Bool → List Bool
next_row calls other row = map (list_any (leads_to row other)) calls

-- the marks after so many rounds and one
abbrev pub row_of : List (List Call) → ℕ → ℕ → List Bool
row_of calls other zero = next_row calls other []
row_of calls other (suc rounds) = next_row calls other (row_of calls other rounds)

abbrev pub calls_back : List Bool → ℕ → Call → List Fault
calls_back row class call = broken_if (leads_to row class call) rule.ConstructorCycle call.place

-- the calls that lead back, of classes that are numbered from here on
abbrev pub cycles_over : List (List Call) → ℕ → List (List Call) → List Fault
cycles_over all class [] = []
cycles_over all class (calls ∷ rest) = flat_map (calls_back (row_of all class (length all)) class) calls ++ cycles_over all (suc class) rest
