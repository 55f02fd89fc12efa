-- How deep constructors stand in one another, by the checked form.
use Rattle.std.specs.Prelude.{ℕ, zero, suc, ◌<◌, length}
use Rattle.easl_model.specs.Form.{Form, constructor_of}
use Rattle.easl_model.specs.Limits.{body_of}
use Rattle.easl_model.specs.Statements.{Statement, Statements, Local, Change, Write, If, none, ◌▸◌}
use Rattle.easl_model.specs.declared.form.Source.{Source}
use Rattle.easl_model.specs.declared.form.Source.TheVariants.{Reach, Make}

-- this holds of the class that a value makes
abbrev pub OfMade : (ℕ → Type 0) → Source → Type 0
OfMade P (Reach r) = Unit {0}
OfMade P (Make class args) = P class

-- and of each class that statements make
abbrev mutual
  pub OfStatement : (ℕ → Type 0) → Statement → Type 0
  OfStatement P (Local v) = OfMade P v
  OfStatement P (Change slot v) = OfMade P v
  OfStatement P (Write owner p v) = OfMade P v
  OfStatement P (If c first second) = OfStatements P first × OfStatements P second

  pub OfStatements : (ℕ → Type 0) → Statements → Type 0
  OfStatements P none = Unit {0}
  OfStatements P (x ▸ xs) = OfStatement P x × OfStatements P xs

-- the class's constructor and those that it calls stand at most so deep in one another
abbrev pub NestsWithin : Form → ℕ → ℕ → Type 0
NestsWithin form zero class = ⊥
NestsWithin form (suc depth) class = OfStatements (NestsWithin form depth) (body_of form (constructor_of form class))

-- no deeper than there are classes
abbrev pub ConstructorsNest : Form → Type 0
ConstructorsNest form = (class : ℕ) → class < length form.classes → NestsWithin form (length form.classes) class
