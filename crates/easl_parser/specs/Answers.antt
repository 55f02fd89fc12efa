-- What is answered for the text of a specification.
use Rattle.std.specs.Prelude.{◌≡◌, ◌≢◌, ◌⊎◌, ℕ, List, Some, Result, Ok, Err}
use Rattle.cv_lex.specs.declared.fault.TextFault.{TextFault}
use Rattle.cv_lex.specs.declared.fault.TextFault.TheVariants.{Limit, Memory}
use Rattle.cv_read.specs.Answers as read
use Rattle.easl_model.specs.{IsSpec, IsWithinLimits, first_excess}
use Rattle.easl_model.specs.declared.fault.Which.{Which}
use Rattle.easl_model.specs.declared.place.Place.{Place}
use Rattle.easl_model.specs.declared.tree.Spec.{Spec}

-- the text's tokens spell a tree, and here begins the first of what it has beyond the limits
abbrev pub IsFirstBeyond : List ℕ → Which → Place → Type 0
IsFirstBeyond text which place = (tree : Spec) × read.Answers IsSpec text (Ok tree) × (first_excess tree ≡ Some (record { which = which; place = place }))

-- the tree that the text's tokens spell, where it keeps the limits, and else its first excess; or the first fault of the text
abbrev pub SpecAnswers : List ℕ → Result Spec TextFault → Type 0
SpecAnswers text (Ok tree) = read.Answers IsSpec text (Ok tree) × IsWithinLimits tree
SpecAnswers text (Err (Limit which place)) = read.Answers IsSpec text (Err (Limit which place)) ⊎ IsFirstBeyond text which place
SpecAnswers text (Err e) = read.Answers IsSpec text (Err e)

-- a text has one answer, want of memory aside
abbrev pub OneAnswer : Type 0
OneAnswer = (text : List ℕ) (r s : Result Spec TextFault) → r ≢ Err Memory → s ≢ Err Memory → SpecAnswers text r → SpecAnswers text s → r ≡ s
