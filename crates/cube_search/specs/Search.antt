-- What the search goes through, and what it keeps.
use Rattle.std.specs.Prelude.{ℕ, zero, suc, ◌+◌, Bool, false, not, cond, ◌==◌, ◌&&◌, ◌||◌, List, [], ◌∷◌, ◌++◌, filter, nat_le, slice_get}
use Rattle.std.specs.List.{list_any}
use Rattle.std.specs.Option.{option_map_or}
use Rattle.cube_search.specs.Rows.{both, is_some, is_within, meets}
use Rattle.cube_search.specs.declared.searching.Candidate.{Candidate}
use Rattle.cube_search.specs.declared.searching.Task.{Task}

abbrev pub candidate : List ℕ → List ℕ → Candidate
candidate row cube = record { row = row; cube = cube }

-- the literal has a term of the variable
abbrev pub is_mentioned : List (ℕ × ℕ) → ℕ → ℕ → Bool
is_mentioned variables variable literal = option_map_or (λ p. p.0 == variable || p.1 == variable) (slice_get variables literal) false

abbrev pub has_variable : List (ℕ × ℕ) → List ℕ → ℕ → Bool
has_variable variables cube variable = list_any (is_mentioned variables variable) cube

-- how many variables below n the cube has
abbrev pub how_many : List (ℕ × ℕ) → List ℕ → ℕ → ℕ
how_many variables cube zero = 0
how_many variables cube (suc n) = how_many variables cube n + cond (has_variable variables cube n) 1 0

unfoldable pub is_few : List (ℕ × ℕ) → List ℕ → Bool
is_few variables cube = nat_le (how_many variables cube 8) 3

-- it is true somewhere and nowhere where the tree is false, and has few variables
abbrev pub takes : Task → Candidate → Bool
takes task c = is_some c.row && not (meets c.row task.never) && is_few task.variables.items c.cube

-- one of these is true wherever the row is set
abbrev pub is_covered : List Candidate → List ℕ → Bool
is_covered kept row = list_any (λ k. is_within row k.row) kept

-- those that are true somewhere else
abbrev pub left_by : List Candidate → List ℕ → List Candidate
left_by kept row = filter (λ k. not (is_within k.row row)) kept

-- those that are kept where one is offered
abbrev pub offered : Candidate → List Candidate → List Candidate
offered c kept = cond (is_covered kept c.row) kept (left_by kept c.row ++ c ∷ [])

abbrev pub considered : Task → Candidate → List Candidate → List Candidate
considered task c kept = cond (takes task c) (offered c kept) kept

abbrev pub kept_of : Task → List Candidate → List Candidate → List Candidate
kept_of task [] kept = kept
kept_of task (c ∷ cs) kept = kept_of task cs (considered task c kept)

-- the cubes that have one literal more, from this one on, or more of them as `deeper` says; the rest are the rows of these literals
abbrev pub longer : (ℕ → List (List ℕ) → List ℕ → List ℕ → List Candidate) → ℕ → List (List ℕ) → List ℕ → List ℕ → List Candidate
longer deeper from [] row cube = []
longer deeper from (r ∷ rest) row cube = deeper (suc from) rest (both row r) (cube ++ from ∷ []) ++ longer deeper (suc from) rest row cube

-- the cubes that have so many literals more; one that is never true where the tree is false is extended no further
abbrev pub visited : List ℕ → ℕ → ℕ → List (List ℕ) → List ℕ → List ℕ → List Candidate
visited never zero from rest row cube = candidate row cube ∷ []
visited never (suc left) from rest row cube = cond (meets row never) (longer (visited never left) from rest row cube) []

-- all those with fewer literals than n
abbrev pub all_visited : Task → ℕ → List Candidate
all_visited task zero = []
all_visited task (suc n) = all_visited task n ++ visited task.never n 0 task.rows.items task.all []
