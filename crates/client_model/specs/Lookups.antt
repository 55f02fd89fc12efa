-- What names stand for in a checked specification.
use Rattle.std.specs.Prelude.{ℕ, Bool, ◌&&◌, ◌||◌, ◌==◌, not, false, List, [], ◌∷◌, Option, codes, nat_eq}
use Rattle.std.specs.Char.{is_ascii_digit}
use Rattle.std.specs.List.{position_from}
use lib.Pointwise.{pointwise}
use Rattle.easl_model.specs.Form.{Form}

-- whether two names are one
abbrev pub is_same : List ℕ → List ℕ → Bool
is_same = pointwise nat_eq

abbrev pub begins_literal : List ℕ → Bool
begins_literal [] = false
begins_literal (c ∷ cs) = is_ascii_digit c || (c == 34)

-- whether a word is a literal: a number, a text in quotes, `true` or `false`
abbrev pub is_literal : List ℕ → Bool
is_literal cs = begins_literal cs || is_same cs (codes "true") || is_same cs (codes "false")

-- the number of the class of this name
abbrev pub class_named : Form → List ℕ → Option ℕ
class_named form name = position_from (λ c. is_same c.name name) 0 form.classes

-- the number of the class's method of this name
abbrev pub method_named : Form → ℕ → List ℕ → Option ℕ
method_named form class name = position_from (λ m. not m.constructor && (m.class == class) && is_same m.name name) 0 form.methods
