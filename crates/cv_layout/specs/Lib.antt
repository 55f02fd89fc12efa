pub mod Layout
pub mod Page
pub mod Tokens
pub mod Words
pub use Rattle.cv_layout.specs.Layout.{Lexeme, Line, before_next, behind, between, braced, indent, is_close, is_open, key, layout, line, line_text, mark}
pub use Rattle.cv_layout.specs.Layout.{parens, separated, space_unless, spaced, text_of, word}
pub use Rattle.cv_layout.specs.Page.{after, after_lines, ended, put, started}
pub use Rattle.cv_layout.specs.Tokens.{AreOf, IsOf, IsProper, LinesAreCut, tokens_on}
pub use Rattle.cv_layout.specs.Words.{bare_word, named, nowhere}
