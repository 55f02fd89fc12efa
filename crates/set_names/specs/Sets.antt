-- The names that are set at each point, by the spans of points at which each variable is.
use Rattle.std.specs.Prelude.{ℕ, suc, ◌*◌, ◌+◌, ◌<◌, ◌≤◌, Bool, false, not, ◌&&◌, ◌||◌, List, [], ◌∷◌, ◌++◌, Option, filter, if◌then◌else◌, length}
use Rattle.std.specs.Prelude.{map, min, nat_lt, slice_get, unwrap_or}
use Rattle.std.specs.List.{list_any, range_with_len}
use Rattle.std.specs.Option.{option_map_or}
use Rattle.set_names.specs.declared.spans.Span.{Span}
use Rattle.set_names.specs.declared.spans.Spans.{Spans}

-- the code of the static of this number, and of the variable
abbrev pub static_code : ℕ → ℕ
static_code number = 4 * number

abbrev pub variable_code : ℕ → ℕ
variable_code number = 4 * number + 1

-- whether the point is in the span
abbrev pub within : ℕ → Span → Bool
within point s = not (nat_lt point s.first) && nat_lt point s.behind

-- whether it is in the one that goes on
abbrev pub holds_since : ℕ → Option ℕ → Bool
holds_since point since = option_map_or (λ first. not (nat_lt point first)) since false

-- whether it is in one of these
abbrev pub holds : ℕ → Spans → Bool
holds point s = list_any (within point) s.ended.items || holds_since point s.since

-- whether the variable of this number is set at the point
abbrev pub is_set_at : List Spans → ℕ → ℕ → Bool
is_set_at variables point number = option_map_or (holds point) (slice_get variables number) false

-- the numbers of the variables that are set at the point
abbrev pub numbers_at : List Spans → ℕ → List ℕ
numbers_at variables point = filter (is_set_at variables point) (range_with_len 0 (length variables))

-- the codes of so many statics, and of these variables
abbrev pub codes_of : ℕ → List ℕ → List ℕ
codes_of statics numbers = map static_code (range_with_len 0 statics) ++ map variable_code numbers

-- the statics that are set at a point: all, or in the start those whose initialisers stand before
abbrev pub statics_at : Bool → ℕ → ℕ → ℕ
statics_at is_start statics point = if is_start then min point statics else statics

-- the codes of the names that are set at each point and at the exit, which has the number of points
abbrev pub sets_of : Bool → ℕ → ℕ → List Spans → List (List ℕ)
sets_of is_start statics points variables = map (λ point. codes_of (statics_at is_start statics point) (numbers_at variables point)) (range_with_len 0 (suc points))

-- spans in order from this point on
abbrev pub Ascends : ℕ → List Span → Type 0
Ascends from [] = Unit {0}
Ascends from (s ∷ rest) = (from ≤ s.first) × (s.first < s.behind) × Ascends s.behind rest

-- the point behind the last
abbrev pub end_of : ℕ → List Span → ℕ
end_of from [] = from
end_of from (s ∷ rest) = end_of s.behind rest

-- they are in order, and end before the one that goes on, which begins at this point or before
pub record AreSpans (point : ℕ) (s : Spans) : Type 0 where
  pub order : Ascends 0 s.ended.items
  pub ended : end_of 0 s.ended.items ≤ unwrap_or s.since point
  pub since : unwrap_or s.since point ≤ point
