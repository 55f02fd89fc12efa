-- The tokens of lines that are laid out.
use Rattle.std.specs.Prelude.{◌≡◌, ℕ, true, List, [], ◌∷◌, ◌++◌, encode_utf8_all}
use Rattle.std.specs.List.{AllByRecursion}
use Rattle.std.specs.Str.{all_scalars}
use Rattle.easl_model.specs.{AreTokens, IsToken, word_of}
use Rattle.easl_model.specs.declared.token.Kind.{Kind}
use Rattle.easl_model.specs.declared.token.Token.{Token}
use Rattle.easl_model.specs.declared.token.Tokens.{Tokens}
use Rattle.cv_layout.specs.Layout.{Lexeme, Line, text_of, layout}

-- the characters are those of a token of some kind
pub record IsProper (x : Lexeme) : Type 0 where
  pub kind : Kind
  pub is_token : IsToken kind (text_of x)
  pub scalars : all_scalars (text_of x) ≡ true

-- the token of the text is written so
pub record IsOf (text : List ℕ) (t : Token) (x : Lexeme) : Type 0 where
  pub is_token : IsToken t.kind (text_of x)
  pub written : (word_of text t).name ≡ text_of x

-- the tokens of the text, one after another, are written so
abbrev pub AreOf : List ℕ → List Token → List Lexeme → Type 0
AreOf text [] [] = Unit {0}
AreOf text [] (x ∷ xs) = ⊥
AreOf text (t ∷ ts) [] = ⊥
AreOf text (t ∷ ts) (x ∷ xs) = IsOf text t x × AreOf text ts xs

-- the tokens of lines, one line after another
abbrev pub tokens_on : List Line → List Lexeme
tokens_on [] = []
tokens_on (l ∷ ls) = l.tokens ++ tokens_on ls

-- lines of proper tokens are cut into exactly these
abbrev pub LinesAreCut : Type 0
LinesAreCut = (ls : List Line) → AllByRecursion IsProper (tokens_on ls)
    → (x : Tokens) × AreTokens (encode_utf8_all (layout ls)) x × AreOf (encode_utf8_all (layout ls)) x.list (tokens_on ls)
