-- The arguments that a family of a cube can have: its variables in each order.
use Rattle.std.specs.Prelude.{◌≢◌, ◌↔◌, ◌==◌, ◌||◌, ℕ, zero, suc, ◌+◌, ◌<◌, Bool, List, [], ◌∷◌, ◌++◌, AllPairs, Contains, filter, insert, length, map}
use Rattle.std.specs.List.{flat_map, list_any}
use Rattle.access_paths.specs.Families.{HasVariable, IsInstance, compare_instances}
use Rattle.access_paths.specs.declared.term.Cube.{Cube}
use Rattle.access_paths.specs.declared.term.Instance.{Instance}
use Rattle.access_paths.specs.declared.term.Literal.{Literal}
use Rattle.access_paths.specs.declared.term.Var.{Var}
use Rattle.std.specs.declared.cmp.Ordering.TheVariants.{Less}

abbrev pub var : ℕ → Var
var v = record { 0 = v }

-- each variable is one of the 8 that a question has
abbrev pub HasKnownVariables : Cube → Type 0
HasKnownVariables c = (v : ℕ) → HasVariable c v → v < 8

-- the numbers below one, in order
abbrev pub below : ℕ → List ℕ
below zero = []
below (suc n) = below n ++ n ∷ []

-- whether a literal has the variable
abbrev pub has : ℕ → Literal → Bool
has v l = l.less.var.0 == v || l.more.var.0 == v

-- the numbers of the cube's variables, of the 8 that a question has, in order
abbrev pub variables : Cube → List ℕ
variables c = filter (λ v. list_any (has v) c.literals) (below 8)

-- the cube's variables, each once
pub record AreArguments (c : Cube) (args : List Var) : Type 0 where
  pub once : AllPairs (λ a b. a ≢ b) args
  pub arguments : (v : Var) → Contains args v ↔ HasVariable c v.0

-- the list with one more item, at each place
abbrev pub insertions : {A : Type 0} → A → List A → List (List A)
insertions x xs = map (λ n. insert xs n x) (below (length xs + 1))

-- the list in each order
abbrev pub orders : {A : Type 0} → List A → List (List A)
orders [] = [] ∷ []
orders (x ∷ xs) = flat_map (insertions x) (orders xs)

-- the least of the instances whose arguments are among these lists
pub record IsLeastAmong (c : Cube) (of : List ℕ) (lists : List (List Var)) (i : Instance) : Type 0 where
  pub instance : IsInstance c of i
  pub least : (j : Instance) → IsInstance c of j → Contains lists j.args → compare_instances j i ≢ Less
