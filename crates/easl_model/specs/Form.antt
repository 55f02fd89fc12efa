-- The checked form of a specification.
use Rattle.std.specs.Prelude.{◌≡◌, ℕ, ◌<◌, ◌≤◌, List, All, length, IfSome, slice_get, unwrap_or, []}
use Rattle.std.specs.Option.{option_map}
use Rattle.easl_model.specs.Statements.{Statement, Statements, statements_of, Local, Change, Write, If, none, ◌▸◌}
use Rattle.easl_model.specs.declared.form.ClassForm.{ClassForm}
use Rattle.easl_model.specs.declared.form.Method.{Method}
use Rattle.easl_model.specs.declared.form.Source.{Source}
use Rattle.easl_model.specs.declared.form.Source.TheVariants.{Reach, Make}

-- the classes and the methods by number
pub record Form : Type 0 where
  pub classes : List ClassForm
  pub methods : List Method

-- the classes of a class's fields by position
abbrev pub fields_of : Form → ℕ → List ℕ
fields_of form class = unwrap_or (option_map (λ c. c.field_classes) (slice_get form.classes class)) []

-- their names
abbrev pub field_names_of : Form → ℕ → List (List ℕ)
field_names_of form class = unwrap_or (option_map (λ c. c.field_names) (slice_get form.classes class)) []

-- the number of a class's constructor
abbrev pub constructor_of : Form → ℕ → ℕ
constructor_of form class = unwrap_or (option_map (λ c. c.constructor) (slice_get form.classes class)) 0

-- a class that a value makes is there
abbrev pub SourceInRange : ℕ → Source → Type 0
SourceInRange classes (Reach r) = Unit {0}
SourceInRange classes (Make class args) = class < classes

abbrev mutual
  pub ActInRange : ℕ → Statement → Type 0
  ActInRange classes (Local v) = SourceInRange classes v
  ActInRange classes (Change slot v) = SourceInRange classes v
  ActInRange classes (Write target field v) = SourceInRange classes v
  ActInRange classes (If c first second) = ActsInRange classes first × ActsInRange classes second

  pub ActsInRange : ℕ → Statements → Type 0
  ActsInRange classes none = Unit {0}
  ActsInRange classes (x ▸ xs) = ActInRange classes x × ActsInRange classes xs

pub record ClassInRange (classes methods : ℕ) (c : ClassForm) : Type 0 where
  pub named : length c.field_names ≡ length c.field_classes
  pub few : length c.field_classes ≤ 16
  pub fields : All (λ n. n < classes) c.field_classes
  pub made : c.constructor < methods

pub record MethodInRange (classes : ℕ) (m : Method) : Type 0 where
  pub of : m.class < classes
  pub named : length m.names ≡ length m.params
  pub few : length m.params ≤ 4
  pub params : All (λ p. IfSome p (λ n. n < classes)) m.params
  pub result : IfSome m.result (λ n. n < classes)
  pub body : ActsInRange classes (statements_of m.body)
  pub value : IfSome m.value (SourceInRange classes)
