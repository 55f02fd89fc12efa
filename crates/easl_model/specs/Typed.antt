-- The classes of what a checked form reaches, without names.
use Rattle.std.specs.Prelude.{◌≡◌, ℕ, zero, suc, ◌<◌, Bool, false, ◌==◌, List, [], ◌∷◌, Option, Some, None, length, slice_get}
use Rattle.std.specs.List.{AllZip, list_any}
use Rattle.std.specs.Option.{option_and_then, option_flatten, option_map_or}
use Rattle.easl_model.specs.Conditions.{Condition, Conditions, none, ◌▸◌}
use Rattle.easl_model.specs.Conditions as condition
use Rattle.easl_model.specs.Form.{Form, constructor_of, fields_of}
use Rattle.easl_model.specs.declared.form.Reach.{Reach}
use Rattle.easl_model.specs.declared.form.Source.{Source}
use Rattle.easl_model.specs.declared.form.Source.TheVariants as source

-- before an act: the class of each slot, None where it is opaque, and the positions of the fields of `this` that a
-- constructor has not assigned yet
pub record Standing : Type 0 where
  pub slots : List (Option ℕ)
  pub unset : List ℕ

-- the class that these fields lead to from a class
abbrev pub class_behind : Form → ℕ → List ℕ → Option ℕ
class_behind form class [] = Some class
class_behind form class (p ∷ ps) = option_and_then (λ next. class_behind form next ps) (slice_get (fields_of form class) p)

abbrev pub slot_class : Standing → ℕ → Option ℕ
slot_class s slot = option_flatten (slice_get s.slots slot)

-- the class of what is reached
abbrev pub class_at : Form → Standing → Reach → Option ℕ
class_at form s r = option_and_then (λ class. class_behind form class r.fields) (slot_class s r.slot)

abbrev pub is_among : List ℕ → ℕ → Bool
is_among positions p = list_any (λ q. q == p) positions

-- what is reached may be read: it goes through no unset field of `this`
abbrev pub IsReadable : List ℕ → ℕ → List ℕ → Type 0
IsReadable unset zero [] = Unit {0}
IsReadable unset zero (p ∷ ps) = is_among unset p ≡ false
IsReadable unset (suc n) ps = Unit {0}

-- and may be given: it is not `this` alone while a field is unset
abbrev pub IsReady : List ℕ → ℕ → List ℕ → Type 0
IsReady unset zero [] = unset ≡ []
IsReady unset zero (p ∷ ps) = is_among unset p ≡ false
IsReady unset (suc n) ps = Unit {0}

-- an object of the class is given
pub record Gives (form : Form) (s : Standing) (r : Reach) (class : ℕ) : Type 0 where
  pub of : class_at form s r ≡ Some class
  pub ready : IsReady s.unset r.slot r.fields

-- an argument is of its parameter's class, or both are opaque
abbrev pub Takes : Form → Standing → Option ℕ → Option Reach → Type 0
Takes form s None None = Unit {0}
Takes form s None (Some r) = ⊥
Takes form s (Some class) None = ⊥
Takes form s (Some class) (Some r) = Gives form s r class

-- what the constructor of a class takes
abbrev pub taken_by : Form → ℕ → List (Option ℕ)
taken_by form class = option_map_or (λ m. m.params) (slice_get form.methods (constructor_of form class)) []

-- the value is an object of the class
abbrev pub IsOf : Form → Standing → Source → ℕ → Type 0
IsOf form s (source.Reach r) class = Gives form s r class
IsOf form s (source.Make made args) class = (made ≡ class) × (made < length form.classes) × AllZip (Takes form s) (taken_by form made) args

-- the sides of a comparison are of one class
pub record AreSides (form : Form) (s : Standing) (left right : Reach) : Type 0 where
  pub class : ℕ
  pub left_gives : Gives form s left class
  pub right_gives : Gives form s right class

abbrev mutual
  pub IsTypedCondition : Form → Standing → Condition → Type 0
  IsTypedCondition form s (condition.Same left right) = AreSides form s left right
  IsTypedCondition form s (condition.Differ left right) = AreSides form s left right
  IsTypedCondition form s (condition.All cs) = AreTypedConditions form s cs
  IsTypedCondition form s (condition.Any cs) = AreTypedConditions form s cs

  pub AreTypedConditions : Form → Standing → Conditions → Type 0
  AreTypedConditions form s none = Unit {0}
  AreTypedConditions form s (c ▸ cs) = IsTypedCondition form s c × AreTypedConditions form s cs
