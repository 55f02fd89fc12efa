-- Typed bodies: the class of each slot and of what each path leads to before each statement, and readiness in constructors.
use Rattle.std.specs.Prelude.{◌≡◌, ℕ, zero, ◌<◌, Bool, true, false, not, ◌==◌, ◌||◌, List, [], ◌∷◌, ◌++◌, All, Option, Some, None, if◌then◌else◌, length, map, slice_get}
use Rattle.std.specs.List.{filter, range_with_len}
use Rattle.easl_model.specs.Conditions.{condition_of, conditions}
use Rattle.easl_model.specs.Form.{Form, constructor_of, fields_of}
use Rattle.easl_model.specs.Statements.{Statement, Statements, statements_of, Local, Change, Write, If, none, ◌▸◌}
use Rattle.easl_model.specs.Typed.{Standing, AreTypedConditions, IsOf, IsReadable, IsTypedCondition, class_at, is_among, slot_class}
use Rattle.easl_model.specs.declared.form.Method.{Method}
use Rattle.easl_model.specs.declared.form.Reach.{Reach}
use Rattle.easl_model.specs.declared.form.Source.{Source}

-- the positions that are left where this field of this object is assigned
abbrev pub left_by : ℕ → List ℕ → ℕ → List ℕ → List ℕ
left_by zero [] p unset = filter (λ q. not (q == p)) unset
left_by slot fields p unset = unset

-- behind a conditional: the slots of its branches have ended, and a field is assigned that both assign
abbrev pub behind_both : Standing → Standing → Standing → Standing
behind_both before one other = record before { unset = filter (λ p. is_among one.unset p || is_among other.unset p) before.unset }

-- the field at the position of what is reached is of the class
abbrev pub IsFieldOf : Form → Standing → Reach → ℕ → ℕ → Type 0
IsFieldOf form s owner p class = (of : ℕ) × (class_at form s owner ≡ Some of) × (slice_get (fields_of form of) p ≡ Some class)

-- the statement is typed, and behind it it stands so: an object of the class is the value of a local or is assigned, to
-- a slot that is not that of `this` or to a field
abbrev mutual
  pub IsTypedStatement : Form → Standing → Statement → Standing → Type 0
  IsTypedStatement form s (Local v) end = (class : ℕ) × IsOf form s v class × (end ≡ record s { slots = s.slots ++ Some class ∷ [] })
  IsTypedStatement form s (Change slot v) end = (class : ℕ) × (0 < slot) × (slot_class s slot ≡ Some class) × IsOf form s v class × (end ≡ s)
  IsTypedStatement form s (Write owner p v) end =
      (class : ℕ) × IsFieldOf form s owner p class × IsReadable s.unset owner.slot owner.fields × IsOf form s v class
      × (end ≡ record s { unset = left_by owner.slot owner.fields p s.unset })
  IsTypedStatement form s (If c first second) end =
      (one : Standing) × (other : Standing) × IsTypedCondition form s c × AreTyped form s first one × AreTyped form s second other
      × (end ≡ behind_both s one other)

  pub AreTyped : Form → Standing → Statements → Standing → Type 0
  AreTyped form s none end = s ≡ end
  AreTyped form s (x ▸ xs) end = (next : Standing) × IsTypedStatement form s x next × AreTyped form next xs end

-- before the body: a constructor has assigned no field
abbrev pub standing_of : Form → Method → Standing
standing_of form m = record {
  slots = Some m.class ∷ m.params;
  unset = if m.constructor then range_with_len 0 (length (fields_of form m.class)) else [];
}

-- a `return` gives an object of the result's class, and stands where the result is of a class
abbrev pub Returns : Form → Standing → Option ℕ → Option Source → Type 0
Returns form s None None = Unit {0}
Returns form s None (Some v) = ⊥
Returns form s (Some class) None = ⊥
Returns form s (Some class) (Some v) = IsOf form s v class

-- a constructor gives its object, of which it has assigned each field
abbrev pub EndsSo : Form → Standing → Method → Bool → Type 0
EndsSo form s m true = (m.result ≡ Some m.class) × (s.unset ≡ [])
EndsSo form s m false = Returns form s m.result m.value

pub record IsTypedMethod (form : Form) (m : Method) : Type 0 where
  pub of : m.class < length form.classes
  pub own : m.constructor ≡ true → slice_get form.methods (constructor_of form m.class) ≡ Some m
  pub end : Standing
  pub clauses : AreTypedConditions form (standing_of form m) (conditions (map condition_of m.clauses))
  pub body : AreTyped form (standing_of form m) (statements_of m.body) end
  pub ends : EndsSo form end m m.constructor

-- the constructor of the class
pub record HasConstructor (form : Form) (class : ℕ) : Type 0 where
  pub method : Method
  pub found : slice_get form.methods (constructor_of form class) ≡ Some method
  pub constructs : method.constructor ≡ true
  pub of : method.class ≡ class

pub record IsTyped (form : Form) : Type 0 where
  pub methods : All (IsTypedMethod form) form.methods
  pub constructors : (class : ℕ) → class < length form.classes → HasConstructor form class
