-- What is printed and read again is the same tree, places aside.
use Rattle.std.specs.Prelude.{◌≡◌, ℕ, List}
use Rattle.easl_model.specs.{IsWithinLimits, Spells}
use Rattle.easl_model.specs.declared.tree.Spec.{Spec}
use Rattle.easl_print.specs.Bare.{bare_spec}
use Rattle.easl_print.specs.Lines.{spec_text}

-- the canonical layout of the tree spells this one, which is the same tree, places aside, keeps the limits where the
-- first one does, and has the same canonical layout
pub record IsReadAgain (spec again : Spec) : Type 0 where
  pub spells : Spells (spec_text spec) again
  pub same : bare_spec again ≡ bare_spec spec
  pub limits : IsWithinLimits spec → IsWithinLimits again
  pub text : spec_text again ≡ spec_text spec

-- whatever tree a text spells is read again from its canonical layout
abbrev pub SpecsAreReadAgain : Type 0
SpecsAreReadAgain = (text : List ℕ) (spec : Spec) → Spells text spec → (again : Spec) × IsReadAgain spec again
