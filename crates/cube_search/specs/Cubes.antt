-- Cubes as rising numbers of literals, with the rows of the configurations in which they are true.
use Rattle.std.specs.Prelude.{◌≡◌, ℕ, suc, ◌<◌, ◌≤◌, ◌⊎◌, Bool, true, List, [], ◌∷◌, length, get_or, slice_index}
use Rattle.std.specs.Int.{bit_at}
use Rattle.cube_search.specs.Lists.{Each, IsIn}
use Rattle.cube_search.specs.Rows.{both, is_within}
use Rattle.cube_search.specs.Search.{takes}
use Rattle.cube_search.specs.declared.searching.Candidate.{Candidate}
use Rattle.cube_search.specs.declared.searching.Task.{Task}

-- rising numbers, from `from` on and below n
abbrev pub IsTail : ℕ → ℕ → List ℕ → Type 0
IsTail from n [] = Unit {0}
IsTail from n (x ∷ t) = (from ≤ x) × (x < n) × IsTail (suc x) n t

-- one list of numbers comes before another, place by place
abbrev pub IsBefore : List ℕ → List ℕ → Type 0
IsBefore [] [] = ⊥
IsBefore [] (y ∷ ys) = Unit {0}
IsBefore (x ∷ xs) [] = ⊥
IsBefore (x ∷ xs) (y ∷ ys) = (x < y) ⊎ ((x ≡ y) × IsBefore xs ys)

-- cubes are ordered by size, then literals
abbrev pub CubeBefore : List ℕ → List ℕ → Type 0
CubeBefore c d = (length c < length d) ⊎ ((length c ≡ length d) × IsBefore c d)

-- where these literals are true, and this row is
abbrev pub row_of : List (List ℕ) → List ℕ → List ℕ → List ℕ
row_of rows row [] = row
row_of rows row (l ∷ ls) = row_of rows (both row (get_or rows l [])) ls

abbrev pub covers : Candidate → Candidate → Bool
covers c k = is_within c.row k.row

abbrev pub Before : Candidate → Candidate → Type 0
Before c d = CubeBefore c.cube d.cube

-- a cube of at most four literals, with the row of the configurations in which they are all true
pub record IsCube (task : Task) (c : Candidate) : Type 0 where
  pub row : c.row ≡ row_of task.rows.items task.all c.cube
  pub tail : IsTail 0 (length task.rows.items) c.cube
  pub size : length c.cube < 5

-- an implicant
abbrev pub Counts : Task → Candidate → Type 0
Counts task c = IsCube task c × (takes task c ≡ true)

-- the bit is set
abbrev pub IsSet : List ℕ → ℕ → ℕ → Type 0
IsSet xs word bit = bit_at (slice_index xs word) bit ≡ 1

-- at the configuration of this word and bit
abbrev pub IsTrueAt : Candidate → ℕ × ℕ → Type 0
IsTrueAt c at = IsSet c.row at.0 at.1

-- all rows are as long
pub record AreAsLong (task : Task) (none : List ℕ) : Type 0 where
  pub rows : Each (λ r. length r ≡ length none) task.rows.items
  pub all : length task.all ≡ length none
  pub wanted : length task.wanted ≡ length none

abbrev pub IsEmpty : List ℕ → Type 0
IsEmpty none = (word bit : ℕ) → IsSet none word bit → ⊥

-- at each configuration of the row one of these is true
abbrev pub IsEnough : List ℕ → List Candidate → Type 0
IsEnough row chosen = (at : ℕ × ℕ) → IsSet row at.0 at.1 → (c : Candidate) × IsIn c chosen × IsTrueAt c at
