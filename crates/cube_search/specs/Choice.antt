-- The choice among cubes.
use Rattle.std.specs.Prelude.{ℕ, cond, List, [], ◌∷◌}
use Rattle.cube_search.specs.Rows.{either, is_within}
use Rattle.cube_search.specs.declared.searching.Candidate.{Candidate}

-- those that are true where none is that was chosen before; what these cover is known
abbrev pub chosen_of : List Candidate → List ℕ → List Candidate
chosen_of [] covered = []
chosen_of (c ∷ cs) covered = cond (is_within c.row covered) (chosen_of cs covered) (c ∷ chosen_of cs (either covered c.row))

-- the row of where one of these is true, or this row is set
abbrev pub union : List ℕ → List Candidate → List ℕ
union row [] = row
union row (c ∷ cs) = union (either row c.row) cs
