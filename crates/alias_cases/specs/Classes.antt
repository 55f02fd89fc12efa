-- The class that a term leads to.
use Rattle.std.specs.Prelude.{ℕ, List, Option, slice_get, slice_index, unwrap_or}
use Rattle.std.specs.List.{fold}
use Rattle.std.specs.Option.{option_map_or}
use Rattle.easl_model.specs.{fields_of}
use Rattle.easl_model.specs.Form.{Form}
use Rattle.access_paths.specs.declared.term.Term.{Term}

-- the class of a variable; 0 where it has no object
abbrev pub start_class : List (Option ℕ) → ℕ → ℕ
start_class variables v = option_map_or (λ o. unwrap_or o 0) (slice_get variables v) 0

-- the class to which fields lead from a class
abbrev pub class_along : Form → ℕ → List ℕ → ℕ
class_along form start fields = fold (λ c f. slice_index (fields_of form c) f) start fields

abbrev pub class_of_term : Form → List (Option ℕ) → Term → ℕ
class_of_term form variables t = class_along form (start_class variables t.var.0) t.fields
