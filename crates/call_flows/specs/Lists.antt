-- Lists of codes with one of some options at each place.
use Rattle.std.specs.Prelude.{ℕ, List, [], ◌∷◌, ◌++◌, flat_map, map}

abbrev pub with_each : List ℕ → List ℕ → List (List ℕ)
with_each options codes = map (λ o. codes ++ o ∷ []) options

-- each of the lists with each of the options behind it
abbrev pub longer : List ℕ → List (List ℕ) → List (List ℕ)
longer options lists = flat_map (with_each options) lists

-- each of the lists with one of the options of each place behind it
abbrev pub product_from : List (List ℕ) → List (List ℕ) → List (List ℕ)
product_from lists [] = lists
product_from lists (options ∷ places) = product_from (longer options lists) places
