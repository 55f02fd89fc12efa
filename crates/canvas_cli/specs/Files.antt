-- How bytes go from a reader to a list.
use Rattle.std.specs.Prelude.{◌≡◌, ℕ, List, ◌++◌, Option}
use Rattle.std.specs.Io.KnownBytes.{Consumes}

-- the bytes by which the list grew are those that are no longer left
abbrev pub Moves : Option (List ℕ) → Option (List ℕ) → List ℕ → List ℕ → Type 0
Moves left rest old new = (piece : List ℕ) × (new ≡ old ++ piece) × Consumes left rest piece
