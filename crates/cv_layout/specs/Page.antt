-- What is put on a page.
use Rattle.std.specs.Prelude.{ℕ, List, [], ◌∷◌, ◌++◌, codes, encode_utf8_all}
use Rattle.cv_layout.specs.declared.page.Before.TheVariants as before
use Rattle.cv_layout.specs.declared.page.Page.{Page}
use Rattle.cv_layout.specs.Layout.{Lexeme, Line, text_of, before_next, between, indent}

-- one more token on the line
abbrev pub put : Page → Lexeme → Page
put p x = record { text = p.text ++ (between p.before x ++ encode_utf8_all (text_of x)); before = before_next x }

-- these tokens, one after another
abbrev pub after : Page → List Lexeme → Page
after p [] = p
after p (x ∷ xs) = after (put p x) xs

-- at a line's beginning, so deep, and at its end
abbrev pub started : Page → ℕ → Page
started p d = record { text = p.text ++ indent d; before = p.before }

abbrev pub ended : Page → Page
ended p = record { text = p.text ++ codes "\n"; before = before.Joined }

-- these lines, one after another
abbrev pub after_lines : Page → List Line → Page
after_lines p [] = p
after_lines p (l ∷ ls) = after_lines (ended (after (started p l.depth) l.tokens)) ls
