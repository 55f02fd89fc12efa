-- What paths lead to has the same class in the checked form.
use Rattle.std.proofs.Common.{◌≡◌, ℕ, zero, suc, ◌+◌, Bool, true, false, List, [], ◌∷◌, length, map, refl, ap, ◌∙◌, arith}
use Rattle.std.specs.List.{fold}
use Rattle.std.specs.Option.{option_flatten, option_map, option_map_or, unwrap_or}
use Rattle.std.specs.Prelude.{Option, Some, None, slice_get}
use Rattle.std.proofs.lemmas.Option.{slice_get-map}
use Rattle.easl_model.specs.{Standing, Way, along, bodies_in, class_at, class_behind, class_named, class_number, classes_from, end_of, field_among}
use Rattle.easl_model.specs.{field_named, fields_in, fields_of, form_of, is_same, members_of, position_in, positions_along, reach_by, slot_class, slot_target}
use Rattle.easl_model.specs.{valued}
use Rattle.easl_model.specs.declared.form.ClassForm.{ClassForm}
use Rattle.easl_model.specs.declared.place.Place.{Place}
use Rattle.easl_model.specs.declared.tree.Class.{Class}
use Rattle.easl_model.specs.declared.tree.Field.{Field}
use Rattle.easl_model.specs.declared.tree.Spec.{Spec}
use Rattle.easl_model.specs.declared.tree.Word.{Word}
use Rattle.easl_model.specs.declared.scope.Context.{Context}
use Rattle.easl_model.specs.declared.scope.Variable.{Variable}
use Rattle.easl_model.specs.declared.scope.FieldAt.{FieldAt}
use Rattle.easl_model.specs.declared.scope.Target.{Target}
use Rattle.easl_model.specs.declared.scope.Target.TheVariants.{Object, Opaque, Unknown}

-- what a checked form knows of what stands before a statement
abbrev pub standing_in : Context → Standing
standing_in c = record { slots = Some c.class ∷ map (λ (v : Variable). v.class) c.variables; unset = c.unset }

-- the classes of the fields of a class
abbrev classes_in : Spec → List Field → List ℕ
classes_in spec fs = map (λ (f : Field). class_number spec f.class) fs

fields_from : (spec : Spec) (methods : ℕ) (cs : List Class) (class : ℕ)
    → unwrap_or (option_map (λ (x : ClassForm). x.field_classes) (slice_get (classes_from spec methods cs) class)) [] ≡ classes_in spec (fields_in (option_map_or (λ (c : Class). c.members) (slice_get cs class) []))
fields_from spec methods [] class = refl
fields_from spec methods (c ∷ cs) zero = refl
fields_from spec methods (c ∷ cs) (suc class) = fields_from spec (methods + length (bodies_in 0 c)) cs class

pub fields_are : (spec : Spec) (class : ℕ) → fields_of (form_of spec) class ≡ classes_in spec (fields_in (members_of spec class))
fields_are spec class = fields_from spec 0 spec.classes class

-- a field that is found stands among the fields
record Stands (spec : Spec) (n : ℕ) (fs : List Field) (found : FieldAt) (class : ℕ) : Type 0 where
  at : ℕ
  position : found.position ≡ n + at
  there : slice_get (classes_in spec fs) at ≡ Some class

field_stands : (spec : Spec) (n : ℕ) (fs : List Field) (name : List ℕ) (found : FieldAt) (class : ℕ) → field_among spec n fs name ≡ Some found
    → found.class ≡ Some class → Stands spec n fs found class
field_stands spec n [] name found class e is = absurd cc
field_stands spec n (f ∷ fs) name found class e is = by (is_same f.name.name name) refl (λ rest. field_stands spec (suc n) fs name found class rest is)
  where
    by : (b : Bool) → is_same f.name.name name ≡ b → (field_among spec (suc n) fs name ≡ Some found → Stands spec (suc n) fs found class)
        → Stands spec n (f ∷ fs) found class
    by true same later =
        let one : Some (let x : FieldAt = record { position = n; class = class_named spec f.class.name } in x) ≡ Some found = rw same at e in
        let found_is : (let x : FieldAt = record { position = n; class = class_named spec f.class.name } in x) ≡ found = cc in
        let named : class_named spec f.class.name ≡ Some class = ap (λ (x : FieldAt). x.class) found_is ∙ is in
        record { at = 0; position = omega (arith, ap (λ (x : FieldAt). x.position) found_is); there = ap (λ o. Some (unwrap_or o 0)) named }
    by false other later =
        let rest : field_among spec (suc n) fs name ≡ Some found = rw other at e in
        let s = later rest in
        record { at = suc s.at; position = omega (arith, s.position); there = s.there }

valued_is : (o : Option ℕ) (class : ℕ) → valued o ≡ Object class → o ≡ Some class
valued_is None class is = absurd cc
valued_is (Some n) class is = let one : n ≡ class = cc in ap Some one

-- one more name
pub next_class : (spec : Spec) (class next : ℕ) (w : Word) → along spec (Object class) w ≡ Object next
    → slice_get (fields_of (form_of spec) class) (position_in spec (Object class) w) ≡ Some next
next_class spec class next w e = by (field_named spec class w.name) refl e
  where
    by : (o : Option FieldAt) → field_named spec class w.name ≡ o → option_map_or (λ (f : FieldAt). valued f.class) o (Unknown w.place) ≡ Object next
        → slice_get (fields_of (form_of spec) class) (position_in spec (Object class) w) ≡ Some next
    by None none is = absurd cc
    by (Some f) found is =
        let of : f.class ≡ Some next = valued_is f.class next is in
        let s = field_stands spec 0 (fields_in (members_of spec class)) w.name f next found of in
        let at : position_in spec (Object class) w ≡ s.at = ap (λ (o : Option FieldAt). option_map_or (λ (x : FieldAt). x.position) o 0) found ∙ omega (arith, s.position) in
        rw (at, fields_are spec class) s.there

-- nothing is reached behind a name that is not there, or behind an opaque value
pub unknown_stays : (spec : Spec) (place : Place) (ws : List Word) → fold (along spec) (Unknown place) ws ≡ Unknown place
unknown_stays spec place [] = refl
unknown_stays spec place (w ∷ ws) = unknown_stays spec place ws

pub opaque_ends : (spec : Spec) (w : Word) (ws : List Word) (class : ℕ) → fold (along spec) Opaque (w ∷ ws) ≡ Object class → ⊥
opaque_ends spec w ws class e = let gone = unknown_stays spec w.place ws in absurd cc

pub unknown_ends : (spec : Spec) (place : Place) (ws : List Word) (class : ℕ) → fold (along spec) (Unknown place) ws ≡ Object class → ⊥
unknown_ends spec place ws class e = let gone = unknown_stays spec place ws in absurd cc

leads : (spec : Spec) (ws : List Word) (start class : ℕ) → fold (along spec) (Object start) ws ≡ Object class
    → class_behind (form_of spec) start (positions_along spec (Object start) ws) ≡ Some class
leads spec [] start class e = let one : start ≡ class = cc in ap Some one
leads spec (w ∷ ws) start class e = by (along spec (Object start) w) refl e (λ next rest. leads spec ws next class rest)
  where
    ends : (vs : List Word) → fold (along spec) Opaque vs ≡ Object class
        → class_behind (form_of spec) start (positions_along spec (Object start) (w ∷ ws)) ≡ Some class
    ends [] rest = absurd cc
    ends (v ∷ vs) rest = absurd (opaque_ends spec v vs class rest)

    by : (t : Target) → along spec (Object start) w ≡ t → fold (along spec) t ws ≡ Object class
        → ((next : ℕ) → fold (along spec) (Object next) ws ≡ Object class → class_behind (form_of spec) next (positions_along spec (Object next) ws) ≡ Some class)
        → class_behind (form_of spec) start (positions_along spec (Object start) (w ∷ ws)) ≡ Some class
    by (Object next) is rest later = rw (next_class spec start next w is, is) (later next rest)
    by Opaque is rest later = ends ws rest
    by (Unknown place) is rest later = absurd (unknown_ends spec place ws class rest)

pub slot_known : (c : Context) (slot start : ℕ) → slot_target c slot ≡ Object start → slot_class (standing_in c) slot ≡ Some start
slot_known c zero start e = let one : c.class ≡ start = cc in ap Some one
slot_known c (suc n) start e = by (slice_get c.variables n) refl e
  where
    by : (o : Option Variable) → slice_get c.variables n ≡ o → option_map_or (λ (v : Variable). valued v.class) o Opaque ≡ Object start
        → slot_class (standing_in c) (suc n) ≡ Some start
    by None none is = absurd cc
    by (Some v) found is = ap option_flatten (slice_get-map (λ (x : Variable). x.class) c.variables n ∙ ap (option_map (λ (x : Variable). x.class)) found) ∙ valued_is v.class start is

pub reached : (spec : Spec) (c : Context) (way : Way) (class : ℕ) → end_of spec c way ≡ Object class
    → class_at (form_of spec) (standing_in c) (reach_by spec c way) ≡ Some class
reached spec c way class e = by (slot_target c way.slot) refl e
  where
    ends : (vs : List Word) → fold (along spec) Opaque vs ≡ Object class → class_at (form_of spec) (standing_in c) (reach_by spec c way) ≡ Some class
    ends [] rest = absurd cc
    ends (v ∷ vs) rest = absurd (opaque_ends spec v vs class rest)

    by : (t : Target) → slot_target c way.slot ≡ t → fold (along spec) t way.names ≡ Object class
        → class_at (form_of spec) (standing_in c) (reach_by spec c way) ≡ Some class
    by (Object start) is rest = rw (slot_known c way.slot start is, is) (leads spec way.names start class rest)
    by Opaque is rest = ends way.names rest
    by (Unknown place) is rest = absurd (unknown_ends spec place way.names class rest)
