-- Configurations: which terms of a list are equal.
use Rattle.std.specs.Prelude.{◌≡◌, ◌≢◌, ℕ, ◌+◌, ◌<◌, ◌≤◌, max, ◌↔◌, ◌==◌, List, [], ◌∷◌, length, All, AllPairs, Contains, Some, slice_get, slice_index}
use Rattle.std.specs.Cmp.Lexicographic.{slice_cmp}
use Rattle.std.specs.List.{position_or_len}
use Rattle.std.specs.Ordering.{nat_cmp, is_eq}
use Rattle.std.specs.declared.cmp.Ordering.TheVariants.{Less}
use Rattle.access_paths.specs.{Equals, compare_terms, field}
use Rattle.access_paths.specs.declared.term.Term.{Term}

-- Blocks are numbered by their first terms: each is one of the n that were met before, or the next number.
abbrev pub AreNumbered : ℕ → List ℕ → Type 0
AreNumbered n [] = Unit {0}
AreNumbered n (b ∷ bs) = (b ≤ n) × AreNumbered (max n (b + 1)) bs

-- the terms at two places are in one block
abbrev pub Joined : List ℕ → ℕ → ℕ → Type 0
Joined bs i j = slice_index bs i ≡ slice_index bs j

-- An equivalence on the list, as the list of block numbers: it joins only terms of one class, and what one field
-- leads to from joined terms.
pub record IsConfiguration (ts : List Term) (classes : List ℕ) (bs : List ℕ) : Type 0 where
  pub as_many : length bs ≡ length ts
  pub numbered : AreNumbered 0 bs
  pub one_class : (i j : ℕ) → i < length ts → j < length ts → Joined bs i j → slice_index classes i ≡ slice_index classes j
  pub along_fields : (i j k l f : ℕ) (t u : Term) → slice_get ts i ≡ Some t → slice_get ts j ≡ Some u
      → slice_get ts k ≡ Some (field t f) → slice_get ts l ≡ Some (field u f) → Joined bs i j → Joined bs k l

-- the whole list of them, in order, each once
pub record AreConfigurations (ts : List Term) (classes : List ℕ) (all : List (List ℕ)) : Type 0 where
  pub ordered : AllPairs (λ bs cs. slice_cmp nat_cmp bs cs ≡ Less) all
  pub holds : (bs : List ℕ) → Contains all bs ↔ IsConfiguration ts classes bs

-- there are more of them than so many
pub record AreMoreThan (most : ℕ) (ts : List Term) (classes : List ℕ) : Type 0 where
  pub some : List (List ℕ)
  pub different : AllPairs (λ bs cs. bs ≢ cs) some
  pub are : All (IsConfiguration ts classes) some
  pub many : most < length some

-- where a term stands in a list
abbrev pub place_of : List Term → Term → ℕ
place_of ts t = position_or_len (λ u. is_eq (compare_terms t u)) ts

-- as a configuration has it, for terms of the list
abbrev pub by_blocks : List Term → List ℕ → Equals
by_blocks ts bs t u = slice_index bs (place_of ts t) == slice_index bs (place_of ts u)
