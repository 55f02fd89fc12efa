-- Words of a tree as lexemes, and with their places aside.
use Rattle.easl_model.specs.declared.place.Place.{Place}
use Rattle.easl_model.specs.declared.tree.Word.{Word}
use Rattle.cv_layout.specs.Layout.{Lexeme, word}

-- a name or a literal as it stands in a tree
abbrev pub named : Word → Lexeme
named w = word w.name

abbrev pub nowhere : Place
nowhere = record { line = 0; col = 0 }

abbrev pub bare_word : Word → Word
bare_word w = record { name = w.name; place = nowhere }
