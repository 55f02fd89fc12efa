-- Configurations of the first terms of a list, by the steps to them, and all of them.
use Rattle.std.specs.Prelude.{◌≡◌, ℕ, ◌+◌, ◌<◌, max, List, [], ◌∷◌, Option, Some, length, slice_get, slice_index}
use Rattle.std.specs.Cmp.Lexicographic.{slice_cmp}
use Rattle.std.specs.List.{AllByRecursion}
use Rattle.std.specs.Ordering.{nat_cmp}
use Rattle.std.specs.declared.cmp.Ordering.TheVariants.{Less}
use Rattle.case_model.specs.{AreNumbered, Joined}
use Rattle.alias_cases.specs.declared.steps.Step.{Step}
use Rattle.alias_cases.proofs.Lists.{IsIn, Rises}

-- steps lead on from earlier terms, and by one field from terms of one class to terms of one class
pub record IsLadder (steps : List (Option Step)) (classes : List ℕ) : Type 0 where
  pub as_many : length classes ≡ length steps
  pub earlier : (k : ℕ) (s : Step) → slice_get steps k ≡ Some (Some s) → s.shorter < k
  pub one_class : (k l : ℕ) (s t : Step) → slice_get steps k ≡ Some (Some s) → slice_get steps l ≡ Some (Some t) → s.field ≡ t.field
      → slice_index classes s.shorter ≡ slice_index classes t.shorter → slice_index classes k ≡ slice_index classes l

-- a configuration of the first n terms
pub record IsArranged (steps : List (Option Step)) (classes : List ℕ) (n : ℕ) (bs : List ℕ) : Type 0 where
  pub as_many : length bs ≡ n
  pub numbered : AreNumbered 0 bs
  pub one_class : (i j : ℕ) → i < n → j < n → Joined bs i j → slice_index classes i ≡ slice_index classes j
  pub along_fields : (k l : ℕ) (s t : Step) → k < n → l < n → slice_get steps k ≡ Some (Some s) → slice_get steps l ≡ Some (Some t)
      → s.field ≡ t.field → Joined bs s.shorter t.shorter → Joined bs k l

abbrev pub IsBefore : List ℕ → List ℕ → Type 0
IsBefore bs cs = slice_cmp nat_cmp bs cs ≡ Less

-- all of them, in order
pub record IsLevel (steps : List (Option Step)) (classes : List ℕ) (n : ℕ) (level : List (List ℕ)) : Type 0 where
  pub ordered : Rises IsBefore level
  pub are : AllByRecursion (IsArranged steps classes n) level
  pub whole : (bs : List ℕ) → IsArranged steps classes n bs → IsIn bs level

-- the number of the next block, where so many were met before these
abbrev pub next_number : ℕ → List ℕ → ℕ
next_number m [] = m
next_number m (b ∷ bs) = next_number (max m (b + 1)) bs
