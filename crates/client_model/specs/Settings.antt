-- What stands around a statement, and what names stand for there.
use Rattle.std.specs.Prelude.{ℕ, suc, Bool, true, false, ◌==◌, List, [], ◌∷◌, ◌++◌, Option, Some, None, if◌then◌else◌, find, map, option_and_then, option_map, slice_get}
use Rattle.std.specs.Option.{option_map_or}
use Rattle.client_model.specs.Lookups.{class_named, is_literal, is_same, method_named}
use Rattle.client_model.specs.declared.tree.Rhs.{Rhs}
use Rattle.client_model.specs.declared.tree.Rhs.TheVariants as rhs
use Rattle.client_model.specs.Codes.{static_code}
use Rattle.client_model.specs.Trees.{Proc, Client, procedures_in, statics_in}
use Rattle.client_model.specs.declared.tree.Static.{Static}
use Rattle.easl_model.specs.Form.{Form, constructor_of}
use Rattle.easl_model.specs.declared.form.Method.{Method as MethodForm}
use Rattle.easl_model.specs.declared.tree.Sort.{Sort}
use Rattle.easl_model.specs.declared.tree.Sort.TheVariants as sort
use Rattle.easl_model.specs.declared.tree.Word.{Word}

-- what a type or a value is: an object of the class, opaque, nothing, or not known, where a name in it is not there
pub data Kind : Type 0 where
  Object : ℕ → Kind
  Opaque : Kind
  Void : Kind
  Unknown : Kind

-- an object of the class, or an opaque value
abbrev pub valued : Option ℕ → Kind
valued None = Opaque
valued (Some class) = Object class

abbrev pub kind_of : Form → Sort → Kind
kind_of form sort.Void = Void
kind_of form (sort.Opaque kind) = Opaque
kind_of form (sort.Class w) = option_map_or Object (class_named form w.name) Unknown

-- the class, where there is one
abbrev pub class_in : Kind → Option ℕ
class_in (Object class) = Some class
class_in Opaque = None
class_in Void = None
class_in Unknown = None

-- whether a value of the second kind can be taken as one of the first. What is not known, and what nothing takes, breaks a
-- rule of its own
abbrev pub fits : Kind → Kind → Bool
fits (Object taken) (Object given) = taken == given
fits Opaque Opaque = true
fits Void given = true
fits Unknown given = true
fits taken Unknown = true
fits taken given = false

-- a static, a parameter or a local: its name, its kind, and its name code
pub record Variable : Type 0 where
  pub name : List ℕ
  pub kind : Kind
  pub code : ℕ

-- a procedure's name, what it takes and what it gives
pub record Header : Type 0 where
  pub name : List ℕ
  pub params : List Kind
  pub result : Kind

-- what stands around a statement: the checked form of the specification, the statics and the headers of the procedures in
-- text order, and the number and the result of the procedure that holds the statement
pub record Setting : Type 0 where
  pub form : Form
  pub statics : List Variable
  pub procedures : List Header
  pub procedure : ℕ
  pub result : Kind

-- statics that are numbered from here on
abbrev pub statics_from : Form → ℕ → List Static → List Variable
statics_from form number [] = []
statics_from form number (x ∷ rest) = record { name = x.name.name; kind = kind_of form x.sort; code = static_code number } ∷ statics_from form (suc number) rest

abbrev pub header_of : Form → Proc → Header
header_of form p = record {
  name = p.name.name;
  params = map (λ x. kind_of form x.sort) p.params;
  result = kind_of form p.result;
}

-- around the initialisers, which stand in procedure 0, the start
abbrev pub setting_of : Form → Client → Setting
setting_of form client = record {
  form = form;
  statics = statics_from form 0 (statics_in client.items);
  procedures = map (header_of form) (procedures_in client.items);
  procedure = 0;
  result = Void;
}

-- in the procedure of this number
abbrev pub inside : ℕ → Proc → Setting → Setting
inside number p s = record s { procedure = number; result = kind_of s.form p.result }

-- the parameter or local of this name that is in scope, else the static
abbrev pub variable_named : Setting → List Variable → List ℕ → Option Variable
variable_named s scope name = find (λ v. is_same v.name name) (scope ++ s.statics)

-- what a word is; a literal is opaque
abbrev pub kind_of_word : Setting → List Variable → Word → Kind
kind_of_word s scope w = if is_literal w.name then Opaque else option_map_or (λ v. v.kind) (variable_named s scope w.name) Unknown

-- a method or constructor by its number in the specification, or a procedure by its number in the client
pub data Called : Type 0 where
  Method : ℕ → Called
  Procedure : ℕ → Called

-- what is called, what it takes and what it gives
pub record Callee : Type 0 where
  pub called : Called
  pub params : List Kind
  pub result : Kind

abbrev pub callee_by : ℕ → MethodForm → Callee
callee_by number m = record {
  called = Method number;
  params = map valued m.params;
  result = if m.gives then valued m.result else Void;
}

abbrev pub method_at : Form → ℕ → Option Callee
method_at form number = option_map (callee_by number) (slice_get form.methods number)

-- the first of the procedures, numbered from here on, that has the name
abbrev pub procedure_from : ℕ → List Header → List ℕ → Option Callee
procedure_from number [] name = None
procedure_from number (h ∷ rest) name =
    if is_same h.name name
    then Some (record { called = Procedure number; params = h.params; result = h.result })
    else procedure_from (suc number) rest name

-- the method, constructor or procedure that a value calls, where it is there
abbrev pub callee_of : Setting → List Variable → Rhs → Option Callee
callee_of s scope (rhs.Copy w) = None
callee_of s scope (rhs.New x) = option_and_then (λ class. method_at s.form (constructor_of s.form class)) (class_named s.form x.class.name)
callee_of s scope (rhs.Component x) =
    option_and_then (method_at s.form) (option_and_then (λ class. method_named s.form class x.method.name) (class_in (kind_of_word s scope x.receiver)))
callee_of s scope (rhs.Call x) = procedure_from 1 s.procedures x.procedure.name

-- what a value is
abbrev pub kind_of_value : Setting → List Variable → Rhs → Kind
kind_of_value s scope (rhs.Copy w) = kind_of_word s scope w
kind_of_value s scope (rhs.New x) = option_map_or (λ m. m.result) (callee_of s scope (rhs.New x)) Unknown
kind_of_value s scope (rhs.Component x) = option_map_or (λ m. m.result) (callee_of s scope (rhs.Component x)) Unknown
kind_of_value s scope (rhs.Call x) = option_map_or (λ m. m.result) (callee_of s scope (rhs.Call x)) Unknown
