-- Rules for which the closure is the least closed list that holds the starts.
use Rattle.std.specs.Prelude.{ℕ, suc, ◌⊎◌, List, take, All, Contains, Result}
use Rattle.cv_fix.specs.Closure.{Gives, IsClosed}

module _ {T S : Type 0} (follows : List T → Result (List T) S) where
  -- An item given at a place of some list is, in every list that holds the items up to that place, given at some place or held.
  abbrev pub IsSteady : Type 0
  IsSteady = (xs ys : List T) (n : ℕ) (x : T) → Gives follows xs n x → All (Contains ys) (take (suc n) xs) → ((m : ℕ) × Gives follows ys m x) ⊎ Contains ys x

  -- These items hold the starts and are closed, and each closed list that holds the starts holds them.
  pub record IsLeast (starts items : List T) : Type 0 where
    pub holds : All (Contains items) starts
    pub closed : IsClosed follows items
    pub least : (ys : List T) → All (Contains ys) starts → IsClosed follows ys → All (Contains ys) items
