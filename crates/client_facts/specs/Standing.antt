-- Which names and facts there are at a point, as tests.
use Rattle.std.specs.Prelude.{ℕ, ◌==◌, ◌&&◌, Bool, true, false, List, [], ◌∷◌, Option, nat_lt, slice_get}
use Rattle.std.specs.List.{list_any}
use Rattle.std.specs.Option.{option_map_or}
use Rattle.client_facts.specs.Counts.{is_of}
use Rattle.client_facts.specs.Setting.{Setting, exit_of, result_of, set_of, variables_of}
use Rattle.client_model.specs.Codes.{Name, Result, Slot, Static, Variable, name_of}

-- there is such a name, and it is of this class
abbrev pub is_known : ℕ → Option (Option ℕ) → Bool
is_known class found = option_map_or (is_of class) found false

-- the name of this code is surely assigned at the point
abbrev pub is_set : Setting → ℕ → ℕ → ℕ → Bool
is_set g p n code = list_any (λ a. a == code) (set_of g p n)

abbrev pub may_stand : Setting → ℕ → ℕ → ℕ → ℕ → Name → Bool
may_stand g p n class code (Static k) = is_known class (slice_get g.client.statics k) && is_set g p n code
may_stand g p n class code (Variable j) = is_known class (slice_get (variables_of g p) j) && is_set g p n code
may_stand g p n class code (Slot j) = nat_lt j 3
may_stand g p n class code (Result j) = j == 0 && (is_of class (result_of g p) && n == exit_of g p)

abbrev pub is_name_at : Setting → ℕ → ℕ → ℕ → ℕ → Bool
is_name_at g p n class code = may_stand g p n class code (name_of code)

-- as many codes as classes, and each may stand at a position of its class
abbrev pub are_names_at : Setting → ℕ → ℕ → List ℕ → List ℕ → Bool
are_names_at g p n [] [] = true
are_names_at g p n [] (code ∷ codes) = false
are_names_at g p n (class ∷ classes) [] = false
are_names_at g p n (class ∷ classes) (code ∷ codes) = is_name_at g p n class code && are_names_at g p n classes codes
