-- What single tokens of a text are: marks, keywords, names and literals.
use Rattle.std.specs.Prelude.{◌≡◌, ℕ, All, ◌&&◌, ◌||◌, Bool, true, false, List, [], if◌then◌else◌, length, nat_lt, nat_le, slice_index, slice_range, IsTrue, chars}
use Rattle.easl_model.specs.Tokens.{IsToken, AreTokens}
use Rattle.easl_model.specs.declared.token.Key.{Key}
use Rattle.easl_model.specs.declared.token.Key.TheVariants as key
use Rattle.easl_model.specs.declared.token.Kind.{Kind}
use Rattle.easl_model.specs.declared.token.Kind.TheVariants as kind
use Rattle.easl_model.specs.declared.token.Mark.{Mark}
use Rattle.easl_model.specs.declared.token.Token.{Token}
use Rattle.easl_model.specs.declared.token.Tokens.{Tokens}
use Rattle.easl_model.specs.declared.tree.Word.{Word}

-- a character begins at this byte of the text, or the text ends there
abbrev pub may_cut : List ℕ → ℕ → Bool
may_cut text at = nat_le at (length text) && (nat_le (length text) at || nat_lt (slice_index text at) 128 || nat_le 192 (slice_index text at))

-- the bytes of the text from the token's start to before its end. A token of the text begins and ends where
-- the text may be cut; for any other there are none
abbrev pub bytes_of : List ℕ → Token → List ℕ
bytes_of text t = if nat_le t.start t.end && may_cut text t.start && may_cut text t.end then slice_range text t.start t.end else []

-- the token's characters with its place
abbrev pub word_of : List ℕ → Token → Word
word_of text t = record { name = chars (bytes_of text t); place = t.place }

abbrev pub is_literal : Kind → Bool
is_literal kind.Text = true
is_literal kind.Number = true
is_literal (kind.Key key.True) = true
is_literal (kind.Key key.False) = true
is_literal k = false

pub record IsMark (m : Mark) (t : Token) : Type 0 where
  pub kind : t.kind ≡ kind.Mark m

pub record IsKey (k : Key) (t : Token) : Type 0 where
  pub kind : t.kind ≡ kind.Key k

-- the token is a name, and this is its word
pub record IsName (text : List ℕ) (t : Token) (w : Word) : Type 0 where
  pub kind : t.kind ≡ kind.Name
  pub word : w ≡ word_of text t

-- the token is a literal, and this is its word
pub record IsLiteral (text : List ℕ) (t : Token) (w : Word) : Type 0 where
  pub kind : IsTrue (is_literal t.kind)
  pub word : w ≡ word_of text t

-- the word of each token of a text is what the token was cut from
abbrev pub TokensAreWritten : Type 0
TokensAreWritten = (text : List ℕ) (x : Tokens) → AreTokens text x → All (λ t. IsToken t.kind (word_of text t).name) x.list
