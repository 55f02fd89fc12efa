-- The first position of each name.
use Rattle.std.specs.Prelude.{◌≡◌, ℕ, IsUtf8, List, Option, String, chars}
use Rattle.std.specs.BTreeMap.{BTreeMap, get_by_text}
use Rattle.std.specs.List.{position_from}
use Rattle.easl_model.specs.Names.{is_same}

-- the position of the first name that is this one
abbrev pub position_of : List ℕ → List (List ℕ) → Option ℕ
position_of name names = position_from (λ n. is_same n name) 0 names

-- the map has the first position of each name, and nothing else
abbrev pub HasFirsts : {X : Type 0} → List (List ℕ) → BTreeMap (String X) ℕ → Type 0
HasFirsts names firsts = (text : List ℕ) → IsUtf8 text → get_by_text firsts text ≡ position_of (chars text) names
