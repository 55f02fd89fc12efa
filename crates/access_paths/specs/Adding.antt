-- One more literal among literals in order.
use Rattle.std.specs.Prelude.{◌≡◌, ◌⊎◌, ◌↔◌, ℕ, ◌<◌, ◌≤◌, List, Contains, length, map}
use Rattle.std.specs.List.{AllWithin, HoldsAt}
use Rattle.std.specs.declared.cmp.Ordering.TheVariants.{Less}
use Rattle.access_paths.specs.Renaming.{renamed}
use Rattle.access_paths.specs.Terms.{Ascend, compare_literals}
use Rattle.access_paths.specs.declared.term.Literal.{Literal}

-- the literals before the place are less, and the one there is greater
pub record IsPlace (l : Literal) (ls : List Literal) (place : ℕ) : Type 0 where
  pub within : place ≤ length ls
  pub before : AllWithin (λ m. compare_literals m l ≡ Less) ls 0 place
  pub after : place < length ls → HoldsAt (λ m. compare_literals l m ≡ Less) ls place

-- the literals in order, with this one among them, each once
pub record IsAdded (l : Literal) (old new : List Literal) : Type 0 where
  pub order : Ascend new
  pub literals : (m : Literal) → Contains new m ↔ ((l ≡ m) ⊎ Contains old m)

-- the literals renamed, in order and each once
pub record AreRenamed (other : ℕ → ℕ) (old new : List Literal) : Type 0 where
  pub order : Ascend new
  pub literals : (m : Literal) → Contains new m ↔ Contains (map (renamed other) old) m
