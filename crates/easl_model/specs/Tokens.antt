-- The tokens of a text, which is cut into gaps and tokens in turn.
use Rattle.std.specs.Prelude.{◌≡◌, ◌≢◌, ℕ, ◌+◌, ◌<◌, ◌≤◌, Bool, Option, Some, None, List, [], ◌∷◌, ◌++◌, ◌||◌, ◌==◌, length, take, count_by, IsTrue, IsUtf8, chars, codes, encode_utf8_all}
use Rattle.std.specs.List.{after_last, AllByRecursion}
use Rattle.std.specs.Char.{is_ascii_digit}
use Rattle.unicode_ident.specs.Ident.{is_xid_start, is_xid_continue}
use Rattle.easl_model.specs.declared.place.Place.{Place}
use Rattle.easl_model.specs.declared.token.Key.{Key}
use Rattle.easl_model.specs.declared.token.Key.TheVariants as key
use Rattle.easl_model.specs.declared.token.Kind.{Kind}
use Rattle.easl_model.specs.declared.token.Kind.TheVariants as kind
use Rattle.easl_model.specs.declared.token.Mark.{Mark}
use Rattle.easl_model.specs.declared.token.Mark.TheVariants as mark
use Rattle.easl_model.specs.declared.token.Token.{Token}
use Rattle.easl_model.specs.declared.token.Tokens.{Tokens}

abbrev pub line_end : ℕ
line_end = 10

abbrev pub quote : ℕ
quote = 34

abbrev pub backslash : ℕ
backslash = 92

-- the place of the character that follows these
abbrev pub place_after : List ℕ → Place
place_after cs = record {
  line = count_by (λ c. c == line_end) cs + 1;
  col = length (after_last (λ c. c == line_end) cs) + 1;
}

abbrev pub key_text : Key → List ℕ
key_text key.Class = codes "class"
key_text key.Requires = codes "requires"
key_text key.New = codes "new"
key_text key.This = codes "this"
key_text key.Return = codes "return"
key_text key.Void = codes "void"
key_text key.Object = codes "Object"
key_text key.Int = codes "int"
key_text key.Boolean = codes "boolean"
key_text key.String = codes "String"
key_text key.True = codes "true"
key_text key.False = codes "false"
key_text key.Null = codes "null"
key_text key.Static = codes "static"
key_text key.If = codes "if"
key_text key.Else = codes "else"
key_text key.While = codes "while"
key_text key.Break = codes "break"
key_text key.Continue = codes "continue"

abbrev pub mark_text : Mark → List ℕ
mark_text mark.Begin = codes "{"
mark_text mark.End = codes "}"
mark_text mark.Open = codes "("
mark_text mark.Close = codes ")"
mark_text mark.Semicolon = codes ";"
mark_text mark.Comma = codes ","
mark_text mark.Dot = codes "."
mark_text mark.Assign = codes "="
mark_text mark.Same = codes "=="
mark_text mark.Differ = codes "!="
mark_text mark.And = codes "&&"
mark_text mark.Or = codes "||"
mark_text mark.Choice = codes "?"

abbrev pub begins_name : ℕ → Bool
begins_name c = is_xid_start c || (c == 95)

-- what a name spells, and every keyword too
abbrev pub IsWord : List ℕ → Type 0
IsWord [] = ⊥
IsWord (c ∷ cs) = IsTrue (begins_name c) × AllByRecursion (λ d. IsTrue (is_xid_continue d)) cs

abbrev pub IsDigits : List ℕ → Type 0
IsDigits cs = (cs ≢ []) × AllByRecursion (λ c. IsTrue (is_ascii_digit c)) cs

-- what stands from behind the first quote on, with the last one
pub data EndsQuoted : List ℕ → Type 0 where
  closed : EndsQuoted (quote ∷ [])
  plain : (c : ℕ) (cs : List ℕ) → c ≢ quote → c ≢ backslash → c ≢ line_end → EndsQuoted cs → EndsQuoted (c ∷ cs)
  escaped : (c : ℕ) (cs : List ℕ) → c ≢ line_end → EndsQuoted cs → EndsQuoted (backslash ∷ c ∷ cs)

abbrev pub IsQuoted : List ℕ → Type 0
IsQuoted [] = ⊥
IsQuoted (c ∷ cs) = (c ≡ quote) × EndsQuoted cs

-- the characters are a token of the kind
abbrev pub IsToken : Kind → List ℕ → Type 0
IsToken kind.Name cs = IsWord cs × ((k : Key) → cs ≢ key_text k)
IsToken kind.Number cs = IsDigits cs
IsToken kind.Text cs = IsQuoted cs
IsToken (kind.Key k) cs = cs ≡ key_text k
IsToken (kind.Mark m) cs = cs ≡ mark_text m

-- before this rest the characters are a token of the kind, and no longer one begins there
pub record IsLongest (k : Kind) (cs rest : List ℕ) : Type 0 where
  pub is_token : IsToken k cs
  pub longest : (j : Kind) (more after : List ℕ) → rest ≡ more ++ after → IsToken j (cs ++ more) → more ≡ []

abbrev pub is_white : ℕ → Bool
is_white c = (c == 32) || (c == 9) || (c == 13) || (c == 10)

abbrev pub EndsLine : List ℕ → Type 0
EndsLine [] = Unit {0}
EndsLine (c ∷ cs) = c ≡ line_end

-- before this rest the characters are white space or a comment
pub data IsGap : List ℕ → List ℕ → Type 0 where
  white : (c : ℕ) (rest : List ℕ) → IsTrue (is_white c) → IsGap (c ∷ []) rest
  line_comment : (cs rest : List ℕ) → AllByRecursion (λ c. c ≢ line_end) cs → EndsLine rest → IsGap (codes "//" ++ cs) rest
  comment : (cs rest : List ℕ) → ((p q : List ℕ) → cs ++ codes "*" ≡ p ++ codes "*/" ++ q → ⊥) → IsGap (codes "/*" ++ cs ++ codes "*/") rest

abbrev pub byte_len : List ℕ → ℕ
byte_len cs = length (encode_utf8_all cs)

-- the token that these characters are, where those before them are these
abbrev pub token_at : List ℕ → Kind → List ℕ → Token
token_at before k cs = record {
  kind = k;
  start = byte_len before;
  end = byte_len (before ++ cs);
  place = place_after before;
}

-- behind the characters `before`, the others are cut into gaps and these tokens, up to those that are left
pub data CutTo (left : List ℕ) : List ℕ → List ℕ → List Token → Type 0 where
  done : (before : List ℕ) → CutTo left before left []
  gap : (before cs rest : List ℕ) (ts : List Token) → IsGap cs rest → CutTo left (before ++ cs) rest ts → CutTo left before (cs ++ rest) ts
  token : (k : Kind) (before cs rest : List ℕ) (ts : List Token) → IsLongest k cs rest → CutTo left (before ++ cs) rest ts
      → CutTo left before (cs ++ rest) (token_at before k cs ∷ ts)

-- all of the others are cut
abbrev pub Cut : List ℕ → List ℕ → List Token → Type 0
Cut before cs ts = CutTo [] before cs ts

-- these are the tokens of the text with these bytes
pub record AreTokens (text : List ℕ) (x : Tokens) : Type 0 where
  pub utf8 : IsUtf8 text
  pub cut : Cut [] (chars text) x.list
  pub end : x.end ≡ place_after (chars text)

-- before this rest the characters are a token of the kind, or a gap where there is none
abbrev pub IsPiece : Option Kind → List ℕ → List ℕ → Type 0
IsPiece None cs rest = IsGap cs rest
IsPiece (Some k) cs rest = IsLongest k cs rest

-- neither a gap nor a token begins the characters
abbrev pub NoPiece : List ℕ → Type 0
NoPiece all = (k : Option Kind) (cs rest : List ℕ) → all ≡ cs ++ rest → IsPiece k cs rest → ⊥

-- the characters are cut up to the place, where more are left and neither a gap nor a token begins
pub record IsStuckAt (cs : List ℕ) (p : Place) : Type 0 where
  pub before : List ℕ
  pub left : List ℕ
  pub tokens : List Token
  pub split : cs ≡ before ++ left
  pub cut : CutTo left [] cs tokens
  pub some : left ≢ []
  pub none : NoPiece left
  pub place : p ≡ place_after before

-- the place is the first of the text at which no token begins though one is wanted
abbrev pub IsBadTokenAt : List ℕ → Place → Type 0
IsBadTokenAt text place = IsUtf8 text × IsStuckAt (chars text) place

-- the longest front of the text that is UTF-8 ends at the place, and is not the whole text
pub record IsNotUtf8At (text : List ℕ) (p : Place) : Type 0 where
  pub size : ℕ
  pub short : size < length text
  pub utf8 : IsUtf8 (take size text)
  pub longest : (n : ℕ) → size < n → n ≤ length text → IsUtf8 (take n text) → ⊥
  pub place : p ≡ place_after (chars (take size text))

-- the token's bytes are some of the text
abbrev pub IsPart : List ℕ → Token → Type 0
IsPart text t = (t.start < t.end) × (t.end ≤ length text)

-- a text has at most one list of tokens
abbrev pub OneListOfTokens : Type 0
OneListOfTokens = (text : List ℕ) (x y : Tokens) → AreTokens text x → AreTokens text y → x ≡ y
