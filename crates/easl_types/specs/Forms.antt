-- The checked form of one class.
use Rattle.std.specs.Prelude.{ℕ, true, [], Some, None, map}
use Rattle.easl_model.specs.{class_number, fields_in}
use Rattle.easl_model.specs.declared.form.ClassForm.{ClassForm}
use Rattle.easl_model.specs.declared.form.Method.{Method}
use Rattle.easl_model.specs.declared.tree.Class.{Class}
use Rattle.easl_model.specs.declared.tree.Spec.{Spec}

-- the class whose constructor has the number
abbrev pub class_form : Spec → ℕ → Class → ClassForm
class_form spec constructor c = record {
  name = c.name.name;
  field_names = map (λ f. f.name.name) (fields_in c.members);
  field_classes = map (λ f. class_number spec f.class) (fields_in c.members);
  constructor = constructor;
}

-- a constructor that is not written
abbrev pub implicit_method : ℕ → Class → Method
implicit_method class c = record {
  class = class;
  name = c.name.name;
  constructor = true;
  params = [];
  names = [];
  result = Some class;
  gives = true;
  clauses = [];
  body = [];
  value = None;
}
