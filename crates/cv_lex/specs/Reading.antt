-- What the parts of the reading find.
use Rattle.std.specs.Prelude.{◌≡◌, ◌≢◌, ℕ, ◌+◌, ◌<◌, ◌≤◌, Bool, not, ◌&&◌, ◌==◌, if◌then◌else◌, Option, Some, None, Result, Ok, Err, List, [], ◌∷◌, ◌++◌, length, take, drop, slice_get, IsTrue}
use Rattle.std.specs.Char.{is_ascii_digit}
use Rattle.easl_model.specs.declared.place.Place.{Place}
use Rattle.easl_model.specs.declared.token.Kind.{Kind}
use Rattle.easl_model.specs.declared.token.Mark.{Mark}
use Rattle.easl_model.specs.declared.token.Token.{Token}
use Rattle.easl_model.specs.declared.token.Tokens.{Tokens}
use Rattle.easl_model.specs.{Cut, CutTo, EndsQuoted, IsNotUtf8At, IsPiece, IsStuckAt, NoPiece, backslash, byte_len, is_white, line_end, mark_text}
use Rattle.easl_model.specs.{place_after, quote}
use Rattle.cv_lex.specs.declared.fault.TextFault.{TextFault}
use Rattle.cv_lex.specs.declared.fault.TextFault.TheVariants.{NotUtf8, BadToken, Syntax, Limit, Memory}
use Rattle.cv_lex.specs.declared.piece.Piece.{Piece}
use Rattle.cv_lex.specs.declared.spot.Spot.{Spot}

abbrev pub slash : ℕ
slash = 47

abbrev pub star : ℕ
star = 42

abbrev pub is_on_line : ℕ → Bool
is_on_line c = not (c == line_end)

-- neither white space nor a comment, a number or a quoted text begins with the character
abbrev pub begins_other : ℕ → Bool
begins_other c = not (is_white c) && not (is_ascii_digit c) && not (c == quote) && not (c == slash)

abbrev pub BeginsWith : (ℕ → Bool) → List ℕ → Type 0
BeginsWith p [] = ⊥
BeginsWith p (c ∷ cs) = IsTrue (p c)

-- the piece stands at the front of the characters
pub record IsFront (cs : List ℕ) (p : Piece) : Type 0 where
  pub some : 0 < p.length
  pub within : p.length ≤ length cs
  pub piece : IsPiece p.kind (take p.length cs) (drop p.length cs)

abbrev pub FindsPiece : List ℕ → Option Piece → Type 0
FindsPiece cs None = NoPiece cs
FindsPiece cs (Some p) = IsFront cs p

-- what is found is written with these characters, and nothing is where None is found
abbrev pub FindsWritten : {T : Type 0} → (T → List ℕ) → List ℕ → Option T → Type 0
FindsWritten {T} text_of cs None = (x : T) → text_of x ≢ cs
FindsWritten {T} text_of cs (Some x) = text_of x ≡ cs

-- a mark of two characters stands at the front
pub record IsLong (cs : List ℕ) (m : Mark) : Type 0 where
  pub two : length (mark_text m) ≡ 2
  pub front : cs ≡ mark_text m ++ drop 2 cs

abbrev pub NoLong : List ℕ → Type 0
NoLong cs = (m : Mark) → length (mark_text m) ≡ 2 → (rest : List ℕ) → cs ≡ mark_text m ++ rest → ⊥

abbrev pub FindsLong : List ℕ → Option Mark → Type 0
FindsLong cs None = NoLong cs
FindsLong cs (Some m) = IsLong cs m

-- how many characters make the next one of a quoted text: two where it is escaped, and none where the text can only end
abbrev pub escape_size : List ℕ → Option ℕ
escape_size [] = None
escape_size (c ∷ cs) = if c == line_end then None else Some 2

abbrev pub unit_size : List ℕ → Option ℕ
unit_size [] = None
unit_size (c ∷ cs) = if c == quote then None else if c == line_end then None else if c == backslash then escape_size cs else Some 1

-- this many characters end a quoted text behind its first quote, and none do where None is found
abbrev pub FindsQuoted : List ℕ → Option ℕ → Type 0
FindsQuoted cs None = (used rest : List ℕ) → EndsQuoted used → cs ≡ used ++ rest → ⊥
FindsQuoted cs (Some n) = (n ≤ length cs) × EndsQuoted (take n cs)

-- a star and a slash stand at the index
abbrev pub EndsComment : List ℕ → ℕ → Type 0
EndsComment cs i = (slice_get cs i ≡ Some star) × (slice_get cs (i + 1) ≡ Some slash)

abbrev pub FindsFirstEnd : List ℕ → Option ℕ → Type 0
FindsFirstEnd cs None = (i : ℕ) → EndsComment cs i → ⊥
FindsFirstEnd cs (Some n) = EndsComment cs n × ((i : ℕ) → i < n → EndsComment cs i → ⊥)

-- the spot is in the text, and its bytes and place are there
pub record IsSpot (cs : List ℕ) (spot : Spot) : Type 0 where
  pub within : spot.at ≤ length cs
  pub offset : spot.offset ≡ byte_len (take spot.at cs)
  pub place : spot.place ≡ place_after (take spot.at cs)

-- the token from the spot to before the end, or none for a gap
abbrev pub token_from : Option Kind → Spot → ℕ → List Token
token_from None spot end = []
token_from (Some k) spot end = record { kind = k; start = spot.offset; end = end; place = spot.place } ∷ []

-- what is cut from the second place on is cut from the first place on, with these tokens more
abbrev pub Leads : List ℕ → ℕ → List Token → ℕ → Type 0
Leads cs from found to = (left : List ℕ) (ts : List Token) → CutTo left (take to cs) (drop to cs) ts → CutTo left (take from cs) (drop from cs) (found ++ ts)

-- between the two places the list has got the tokens that stand there
abbrev pub Grows : List ℕ → ℕ → ℕ → List Token → List Token → Type 0
Grows cs from to old new = (found : List Token) × (new ≡ old ++ found) × Leads cs from found to

-- a step is refused where nothing begins at its place, or for want of memory
abbrev pub RefusesStep : TextFault → List ℕ → Place → Type 0
RefusesStep (BadToken p) rest place = (p ≡ place) × NoPiece rest
RefusesStep Memory rest place = Unit {0}
RefusesStep (NotUtf8 p) rest place = ⊥
RefusesStep (Syntax p) rest place = ⊥
RefusesStep (Limit w p) rest place = ⊥

-- what is answered for the characters of a text
abbrev pub CutAnswers : List ℕ → Result Tokens TextFault → Type 0
CutAnswers cs (Ok x) = Cut [] cs x.list × (x.end ≡ place_after cs)
CutAnswers cs (Err (BadToken place)) = IsStuckAt cs place
CutAnswers cs (Err Memory) = Unit {0}
CutAnswers cs (Err (NotUtf8 p)) = ⊥
CutAnswers cs (Err (Syntax p)) = ⊥
CutAnswers cs (Err (Limit w p)) = ⊥

-- a text is not decoded where its bytes are none, or for want of memory
abbrev pub RefusesBytes : List ℕ → TextFault → Type 0
RefusesBytes text (NotUtf8 place) = IsNotUtf8At text place
RefusesBytes text Memory = Unit {0}
RefusesBytes text (BadToken p) = ⊥
RefusesBytes text (Syntax p) = ⊥
RefusesBytes text (Limit w p) = ⊥
