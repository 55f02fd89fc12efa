-- The classes of terms, and families that fit a specification.
use Rattle.std.specs.Prelude.{◌≡◌, ℕ, ◌<◌, ◌≤◌, List, All, Option, Some, length, map, slice_get}
use Rattle.easl_model.specs.Form.{Form}
use Rattle.easl_heap.specs.{FieldsLead}
use Rattle.access_paths.specs.declared.term.Family.{Family}
use Rattle.access_paths.specs.declared.term.Literal.{Literal}
use Rattle.access_paths.specs.declared.term.Term.{Term}

-- from variables of these classes, None where one has no object, the term leads to an object of the class
pub record IsTermOf (form : Form) (variables : List (Option ℕ)) (t : Term) (class : ℕ) : Type 0 where
  pub start : ℕ
  pub variable : slice_get variables t.var.0 ≡ Some (Some start)
  pub leads : FieldsLead form start t.fields class

-- both sides are of one class
pub record IsLiteralOf (form : Form) (variables : List (Option ℕ)) (l : Literal) : Type 0 where
  pub class : ℕ
  pub less : IsTermOf form variables l.less class
  pub more : IsTermOf form variables l.more class

-- Classes and fields are in range, the variables are the family's, and the two terms of each literal have one class.
pub record Fits (form : Form) (family : Family) : Type 0 where
  pub some : 0 < length family.classes
  pub few : length family.classes ≤ 3
  pub classes : All (λ c. c < length form.classes) family.classes
  pub literals : All (IsLiteralOf form (map (λ c. Some c) family.classes)) family.cube.literals
