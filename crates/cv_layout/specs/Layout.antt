-- How tokens are laid out on lines. The layout is this project's own.
use Rattle.std.specs.Prelude.{ℕ, suc, zero, Bool, true, false, ◌||◌, List, [], ◌∷◌, ◌++◌, codes}
use Rattle.easl_model.specs.{key_text, mark_text}
use Rattle.easl_model.specs.declared.token.Key.{Key}
use Rattle.easl_model.specs.declared.token.Mark.{Mark}
use Rattle.easl_model.specs.declared.token.Mark.TheVariants as sign
use Rattle.cv_layout.specs.declared.page.Before.{Before}
use Rattle.cv_layout.specs.declared.page.Before.TheVariants as before

-- a token as it is written: a keyword, a mark, or a name or a literal with these characters
pub data Lexeme : Type 0 where
  key : Key → Lexeme
  mark : Mark → Lexeme
  word : List ℕ → Lexeme

-- its characters
abbrev pub text_of : Lexeme → List ℕ
text_of (key k) = key_text k
text_of (mark m) = mark_text m
text_of (word cs) = cs

-- what the token is to the one behind it: no space stands behind "(" and "."
abbrev pub before_next : Lexeme → Before
before_next (mark sign.Open) = before.Joined
before_next (mark sign.Dot) = before.Joined
before_next (word cs) = before.Word
before_next x = before.Other

-- no space stands before ")", ";", "," and "."
abbrev pub is_close : Lexeme → Bool
is_close (mark sign.Close) = true
is_close (mark sign.Semicolon) = true
is_close (mark sign.Comma) = true
is_close (mark sign.Dot) = true
is_close x = false

-- no space stands between a name and "("
abbrev pub is_open : Lexeme → Bool
is_open (mark sign.Open) = true
is_open x = false

-- a single space, where none is left out
abbrev pub space_unless : Bool → List ℕ
space_unless true = []
space_unless false = codes " "

-- what stands between this and the next token
abbrev pub between : Before → Lexeme → List ℕ
between before.Joined x = []
between before.Word x = space_unless (is_close x || is_open x)
between before.Other x = space_unless (is_close x)

-- the tokens of a line, one following another
abbrev pub spaced : Before → List Lexeme → List ℕ
spaced b [] = []
spaced b (x ∷ xs) = between b x ++ (text_of x ++ spaced (before_next x) xs)

-- a line: how deep it stands, and its tokens
pub record Line : Type 0 where
  pub depth : ℕ
  pub tokens : List Lexeme

-- two spaces for each step deeper
abbrev pub indent : ℕ → List ℕ
indent zero = []
indent (suc d) = codes "  " ++ indent d

-- the line with its end
abbrev pub line_text : Line → List ℕ
line_text l = indent l.depth ++ (spaced before.Joined l.tokens ++ codes "\n")

-- the lines as characters
abbrev pub layout : List Line → List ℕ
layout [] = []
layout (l ∷ ls) = line_text l ++ layout ls

-- one line of these tokens, so deep
abbrev pub line : ℕ → List Lexeme → List Line
line d xs = record { depth = d; tokens = xs } ∷ []

-- what opens a brace at the end of its line, what stands in it, and the closing brace on a line of its own
abbrev pub braced : ℕ → List Lexeme → List Line → List Line
braced d opening body = line d (opening ++ mark sign.Begin ∷ []) ++ (body ++ line d (mark sign.End ∷ []))

-- these with the mark before each
abbrev pub behind : Mark → List (List Lexeme) → List Lexeme
behind m [] = []
behind m (x ∷ xs) = mark m ∷ x ++ behind m xs

-- these with the mark between each two
abbrev pub separated : Mark → List (List Lexeme) → List Lexeme
separated m [] = []
separated m (x ∷ xs) = x ++ behind m xs

-- "(" what stands between ")"
abbrev pub parens : List Lexeme → List Lexeme
parens xs = mark sign.Open ∷ xs ++ mark sign.Close ∷ []
