-- The variables that are set, before a point and at it.
use Rattle.std.specs.Prelude.{ℕ, List, length, map}
use Rattle.std.specs.List.{range_with_len}
use Rattle.set_names.specs.Sets.{numbers_at}
use Rattle.set_names.specs.declared.spans.Spans.{Spans}

-- how many variables there are, the numbers of those that were set at each point before, and of those that are set now
pub record Sets : Type 0 where
  pub variables : ℕ
  pub before : List (List ℕ)
  pub now : List ℕ

-- behind so many points, where these are the spans of each variable
abbrev pub sets_behind : ℕ → List Spans → Sets
sets_behind points variables = record {
  variables = length variables;
  before = map (numbers_at variables) (range_with_len 0 points);
  now = numbers_at variables points;
}
