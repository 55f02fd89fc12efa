-- What stands behind a reader's faults.
use Rattle.std.specs.Prelude.{◌≡◌, ℕ, ◌-◌, List, ◌∷◌, ◌++◌, drop, length, Result, Ok, Err}
use Rattle.cv_lex.specs.declared.fault.TextFault.{TextFault}
use Rattle.cv_lex.specs.declared.fault.TextFault.TheVariants as text
use Rattle.easl_model.specs.declared.fault.Which.TheVariants as which
use Rattle.easl_model.specs.{FirstWrong, IsFirstDeep, Shallow, first_place}
use Rattle.easl_model.specs.declared.place.Place.{Place}
use Rattle.easl_model.specs.declared.token.Token.{Token}
use Rattle.easl_model.specs.declared.token.Tokens.{Tokens}
use Rattle.cv_read.specs.declared.fault.ReadFault.{ReadFault}
use Rattle.cv_read.specs.declared.fault.ReadFault.TheVariants.{Nesting, Syntax, Memory}

-- the place where so many of the text's tokens are left
abbrev pub place_where : Tokens → ℕ → Place
place_where x left = first_place x.end (drop (length x.list - left) x.list)

-- the fault with its place in the text of these tokens
abbrev pub placed : Tokens → ReadFault → TextFault
placed x (Nesting left) = text.Limit which.Nesting (place_where x left)
placed x (Syntax left) = text.Syntax (place_where x left)
placed x Memory = text.Memory

-- where so many tokens are left, the first makes a 65th unclosed bracket
abbrev pub DeepAt : List Token → ℕ → Type 0
DeepAt ts left = (before : List Token) × (t : Token) × (after : List Token) × (ts ≡ before ++ t ∷ after) × (length (t ∷ after) ≡ left) × IsFirstDeep before t

-- where so many tokens are left stands the first wrong one, or the text ends too soon
abbrev pub WrongAt : {A : Type 0} → (List Token → A → Type 0) → List Token → ℕ → Type 0
WrongAt S ts left = (before after : List Token) × (ts ≡ before ++ after) × (length after ≡ left) × FirstWrong S before after

-- at most 64 brackets are unclosed at once, or this is the first token that makes a 65th
abbrev pub Nests : List Token → Result (Unit {0}) ReadFault → Type 0
Nests ts (Ok x) = Shallow ts
Nests ts (Err (Nesting left)) = DeepAt ts left
Nests ts (Err (Syntax left)) = ⊥
Nests ts (Err Memory) = ⊥
