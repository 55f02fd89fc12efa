-- What reading the texts of a language answers. The language says which tokens of a text that ends at a place spell
-- which tree.
use Rattle.std.specs.Prelude.{◌≡◌, ◌≢◌, ℕ, List, ◌∷◌, ◌++◌, Result, Ok, Err}
use Rattle.cv_lex.specs.declared.fault.TextFault.{TextFault}
use Rattle.cv_lex.specs.declared.fault.TextFault.TheVariants.{NotUtf8, BadToken, Limit, Syntax, Memory}
use Rattle.easl_model.specs.declared.fault.Which.TheVariants.{Nesting}
use Rattle.easl_model.specs.{AreTokens, FirstWrong, IsBadTokenAt, IsFirstDeep, IsNotUtf8At, Shallow, first_place}
use Rattle.easl_model.specs.declared.place.Place.{Place}
use Rattle.easl_model.specs.declared.token.Token.{Token}
use Rattle.easl_model.specs.declared.token.Tokens.{Tokens}
use Rattle.cv_read.specs.Faults.{DeepAt, WrongAt}
use Rattle.cv_read.specs.declared.fault.ReadFault.{ReadFault}
use Rattle.cv_read.specs.declared.fault.ReadFault.TheVariants as read

-- the text, its end, its tokens, and the tree that they spell
abbrev pub Language : Type 0 → Type 1
Language A = List ℕ → Place → List Token → A → Type 0

-- at the place stands the first bracket that is a 65th unclosed one
abbrev pub IsTooDeepAt : Tokens → Place → Type 0
IsTooDeepAt x place = (before : List Token) × (t : Token) × (after : List Token) × (x.list ≡ before ++ t ∷ after) × IsFirstDeep before t × (place ≡ t.place)

-- at the place stands the first wrong token, or the text ends there too soon
abbrev pub IsFirstWrongAt : {A : Type 0} → Language A → List ℕ → Tokens → Place → Type 0
IsFirstWrongAt S text x place = (before after : List Token) × (x.list ≡ before ++ after) × FirstWrong (S text x.end) before after × (place ≡ first_place x.end after)

abbrev pub Answers : {A : Type 0} → Language A → List ℕ → Result A TextFault → Type 0
Answers S text (Ok tree) = (x : Tokens) × AreTokens text x × Shallow x.list × S text x.end x.list tree
Answers S text (Err (Limit Nesting place)) = (x : Tokens) × AreTokens text x × IsTooDeepAt x place
Answers S text (Err (Syntax place)) = (x : Tokens) × AreTokens text x × Shallow x.list × IsFirstWrongAt S text x place
Answers S text (Err (NotUtf8 place)) = IsNotUtf8At text place
Answers S text (Err (BadToken place)) = IsBadTokenAt text place
Answers S text (Err Memory) = Unit {0}
Answers S text (Err e) = ⊥

-- a text has one answer, want of memory aside
abbrev pub OneAnswer : {A : Type 0} → Language A → Type 0
OneAnswer {A} S = (text : List ℕ) (r s : Result A TextFault) → r ≢ Err Memory → s ≢ Err Memory → Answers S text r → Answers S text s → r ≡ s

-- what is found in the tokens of a text that ends at the place
abbrev pub FindsTree : {A : Type 0} → Language A → List ℕ → Place → List Token → Result A ReadFault → Type 0
FindsTree S text end ts (Ok tree) = Shallow ts × S text end ts tree
FindsTree S text end ts (Err (read.Nesting left)) = DeepAt ts left
FindsTree S text end ts (Err (read.Syntax left)) = Shallow ts × WrongAt (S text end) ts left
FindsTree S text end ts (Err read.Memory) = Unit {0}
