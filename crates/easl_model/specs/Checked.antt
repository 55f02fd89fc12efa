-- What every checked form keeps.
use Rattle.std.specs.Prelude.{◌≡◌, ℕ, ◌≤◌, List, All, length}
use Rattle.easl_model.specs.Brackets.{Shallow}
use Rattle.easl_model.specs.CheckedForm.{form_of}
use Rattle.easl_model.specs.Form.{Form, ClassInRange, MethodInRange}
use Rattle.easl_model.specs.Grammar.{IsSpec}
use Rattle.easl_model.specs.Limits.{MethodKeepsLimits}
use Rattle.easl_model.specs.Rules.{IsWellFormed}
use Rattle.easl_model.specs.Tokens.{AreTokens}
use Rattle.easl_model.specs.TreeLimits.{IsWithinLimits}
use Rattle.easl_model.specs.declared.token.Tokens.{Tokens}
use Rattle.easl_model.specs.declared.tree.Spec.{Spec}

-- the whole text spells the tree, with at most 64 brackets unclosed at once
pub record Spells (text : List ℕ) (spec : Spec) : Type 0 where
  pub tokens : Tokens
  pub cut : AreTokens text tokens
  pub shallow : Shallow tokens.list
  pub spelled : IsSpec text tokens.end tokens.list spec

-- a tree that a reader can give: some text within its limit spells it, and it is within the limits
pub record IsReadable (spec : Spec) : Type 0 where
  pub text : List ℕ
  pub few_bytes : length text ≤ 65536
  pub spells : Spells text spec
  pub limits : IsWithinLimits spec

-- the form is that of a well-formed tree that a reader can give
pub record IsChecked (checked : Form) : Type 0 where
  pub tree : Spec
  pub readable : IsReadable tree
  pub well_formed : IsWellFormed tree
  pub form : checked ≡ form_of tree

-- each number of a class or a method names one that is there, and the stated limits are kept
pub record IsInRange (form : Form) : Type 0 where
  pub few_classes : length form.classes ≤ 64
  pub few_methods : length form.methods ≤ 4160
  pub classes : All (ClassInRange (length form.classes) (length form.methods)) form.classes
  pub methods : All (MethodInRange (length form.classes)) form.methods
  pub limits : All (MethodKeepsLimits form) form.methods
