-- Rows of bits that say where something is true: bit k % 64 of word k / 64 is that of place k.
use Rattle.std.specs.Prelude.{◌≡◌, ◌↔◌, ℕ, ◌+◌, ◌*◌, ◌/◌, ◌<◌, Bool, true, List, Some, length, slice_get}
use Rattle.cube_search.specs.Cubes.{IsSet}

-- it is true at the place of this word and bit
abbrev pub IsTruth : List Bool → ℕ × ℕ → Type 0
IsTruth truths x = (x.1 < 64) × (slice_get truths (64 * x.0 + x.1) ≡ Some true)

-- the bits that are set are those of the places where it is true
pub record IsRowOf (truths : List Bool) (row : List ℕ) : Type 0 where
  pub words : length row ≡ length truths / 64 + 1
  pub bits : (x : ℕ × ℕ) → IsSet row x.0 x.1 ↔ IsTruth truths x
