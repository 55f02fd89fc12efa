-- Causes beside items.
use Rattle.std.specs.Prelude.{ℕ, ◌-◌, List, ◌++◌, length, Option, replicate}

-- the causes of n items, where those that have none yet have this one
abbrev pub filled : Option ℕ → ℕ → List (Option ℕ) → List (Option ℕ)
filled cause n causes = causes ++ replicate (n - length causes) cause
