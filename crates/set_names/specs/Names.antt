-- The names that are assigned, as a body is gone through.
use Rattle.std.specs.Prelude.{◌≡◌, ℕ, ◌<◌, ◌==◌, ◌&&◌, Bool, true, false, not, List, [], ◌∷◌, ◌++◌, Option, Some, None, IfSome, filter, if◌then◌else◌, nat_lt}
use Rattle.std.specs.Prelude.{slice_index_or}
use Rattle.std.specs.List.{list_any, range_with_len}
use Rattle.set_names.specs.Sets.{codes_of}
use Rattle.set_names.specs.SoFar.{Sets}

-- so many statics are assigned; there are so many variables; the numbers of those that were assigned at each point before, and
-- of those that are now, as they came; and whether each is assigned wherever the body was left
pub record Names : Type 0 where
  pub statics : ℕ
  pub variables : ℕ
  pub before : List (List ℕ)
  pub trail : List ℕ
  pub left : Option (List Bool)

abbrev pub is_in : List ℕ → ℕ → Bool
is_in numbers number = list_any (λ k. k == number) numbers

-- whether the name of this code is assigned
abbrev pub is_assigned : Names → ℕ → Bool
is_assigned n code = list_any (λ x. x == code) (codes_of n.statics n.trail)

-- by number
abbrev pub numbers_now : Names → List ℕ
numbers_now n = filter (is_in n.trail) (range_with_len 0 n.variables)

-- where the body was left nowhere, each variable is
abbrev pub is_left : Option (List Bool) → ℕ → Bool
is_left None number = true
is_left (Some flags) number = slice_index_or flags number false

abbrev pub numbers_left : Names → List ℕ
numbers_left n = filter (is_left n.left) (range_with_len 0 n.variables)

-- with one more, if it is a variable and is not assigned yet
abbrev pub with_number : ℕ → Names → List ℕ
with_number number n = if nat_lt number n.variables && not (is_in n.trail number) then n.trail ++ number ∷ [] else n.trail

-- none is there twice
abbrev pub Once : List ℕ → Type 0
Once [] = Unit {0}
Once (k ∷ rest) = (is_in rest k ≡ false) × Once rest

-- what is kept on the way: the spans know the same variables, and what was assigned where the body was left and is no longer
-- assigned is among those that are gone since
pub record AreKept (variables : ℕ) (sets : Sets) (trail gone : List ℕ) (left : Option (List Bool)) : Type 0 where
  pub many : sets.variables ≡ variables
  pub now : (k : ℕ) → is_in sets.now k ≡ is_in trail k
  pub inside : (k : ℕ) → is_in trail k ≡ true → k < variables
  pub once : Once trail
  pub stays : IfSome left (λ flags. (k : ℕ) → slice_index_or flags k false ≡ true → is_in gone k ≡ false → is_in trail k ≡ true)
