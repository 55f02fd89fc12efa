-- What is read and given without a fault is ready in the checked form.
use Rattle.std.proofs.Common.{◌≡◌, ℕ, zero, suc, false, List, [], ◌∷◌, refl}
use Rattle.std.specs.List.{fold}
use Rattle.std.specs.Option.{option_map_or}
use Rattle.std.specs.Prelude.{Option, Some, None, not, ◌&&◌}
use Rattle.easl_model.specs.declared.place.Place.{Place}
use Rattle.easl_model.specs.declared.tree.Path.{Path}
use Rattle.easl_model.specs.declared.tree.Spec.{Spec}
use Rattle.easl_model.specs.declared.tree.Word.{Word}
use Rattle.easl_model.specs.{Gives, IsReady, Way, along, broken_if, end_of, faults_of_object, faults_of_path, field_named, field_unready, form_of, from_this}
use Rattle.easl_model.specs.{is_among, is_empty, is_opaque, is_this_by, named_way, no_name, position_in, reach_by, reach_of, reads_unset, target_of}
use Rattle.easl_model.specs.{this_unready, valued, variable_named, way_by, way_of}
use Rattle.easl_model.specs.Typed.{IsReadable}
use Rattle.easl_model.specs.declared.scope.Context.{Context}
use Rattle.easl_model.specs.declared.fault.Rule.TheVariants as rule
use Rattle.easl_model.specs.declared.scope.FieldAt.{FieldAt}
use Rattle.easl_model.specs.declared.scope.Target.{Target}
use Rattle.easl_model.specs.declared.scope.Target.TheVariants.{Object, Opaque, Unknown}
use Rattle.easl_model.proofs.None.{empty_is, none_of_both, none_of_three, not_broken, not_not}
use Rattle.easl_model.proofs.Reaching.{opaque_ends, reached, standing_in, unknown_ends}

-- the field of `this` that a name leads to is assigned
own_ready : (spec : Spec) (c : Context) (w : Word) (next : ℕ) → along spec (Object c.class) w ≡ Object next → field_unready spec c (Some w) ≡ []
    → is_among c.unset (position_in spec (Object c.class) w) ≡ false
own_ready spec c w next there none = by (field_named spec c.class w.name) refl there (not_broken (reads_unset spec c w) rule.Unready w.place none)
  where
    by : (o : Option FieldAt) → field_named spec c.class w.name ≡ o
        → option_map_or (λ (f : FieldAt). valued f.class) o (Unknown w.place) ≡ Object next → reads_unset spec c w ≡ false
        → is_among c.unset (position_in spec (Object c.class) w) ≡ false
    by None found is read = absurd cc
    by (Some f) found is read = rw found (rw found at read)

-- what a way begins with is an object, if the way ends with one
pub begins : (spec : Spec) (t : Target) (ws : List Word) (class : ℕ) → fold (along spec) t ws ≡ Object class → (start : ℕ) × (t ≡ Object start)
begins spec (Object start) ws class e = (start, refl)
begins spec Opaque [] class e = absurd cc
begins spec Opaque (w ∷ ws) class e = absurd (opaque_ends spec w ws class e)
begins spec (Unknown place) ws class e = absurd (unknown_ends spec place ws class e)

-- a path whose object is given
ready_by : (spec : Spec) (c : Context) (head : Option Word) (fields : List Word) (place : Place) (class : ℕ)
    → end_of spec c (way_by c head fields) ≡ Object class → field_unready spec c (from_this (way_by c head fields)) ≡ []
    → broken_if (is_this_by head fields && not (is_empty c.unset)) rule.Unready place ≡ []
    → IsReady c.unset (way_by c head fields).slot (reach_by spec c (way_by c head fields)).fields
ready_by spec c None [] place class e read alone = empty_is c.unset (not_not (is_empty c.unset) (not_broken (not (is_empty c.unset)) rule.Unready place alone))
ready_by spec c None (w ∷ ws) place class e read alone =
    let next = begins spec (along spec (Object c.class) w) ws class e in own_ready spec c w next.0 next.1 read
ready_by spec c (Some w) fields place class e read alone = by (variable_named c w.name) e read
  where
    by : (o : Option ℕ) → end_of spec c (named_way w fields o) ≡ Object class → field_unready spec c (from_this (named_way w fields o)) ≡ []
        → IsReady c.unset (named_way w fields o).slot (reach_by spec c (named_way w fields o)).fields
    by None e read = let next = begins spec (along spec (Object c.class) w) fields class e in own_ready spec c w next.0 next.1 read
    by (Some n) e read = tt

-- the faults of a path
pub path_parts : (spec : Spec) (c : Context) (path : Path) → faults_of_path spec c path ≡ []
    → (no_name (target_of spec c path) ≡ []) × (field_unready spec c (from_this (way_of c path)) ≡ []) × (this_unready c path ≡ [])
path_parts spec c path none = none_of_three (no_name (target_of spec c path)) (field_unready spec c (from_this (way_of c path))) (this_unready c path) none

-- a path that leads to an object without a fault gives it
pub given : (spec : Spec) (c : Context) (path : Path) (class : ℕ) → target_of spec c path ≡ Object class → faults_of_path spec c path ≡ []
    → Gives (form_of spec) (standing_in c) (reach_of spec c path) class
given spec c path class e none =
    let parts = path_parts spec c path none in
    record {
      of = reached spec c (way_of c path) class e;
      ready = ready_by spec c path.head path.fields path.place class e parts.1 parts.2;
    }

-- a target that is neither opaque nor unknown is an object
pub object_is : (t : Target) (place : Place) → is_opaque place t ≡ [] → no_name t ≡ [] → (class : ℕ) × (t ≡ Object class)
object_is (Object class) place opaque unknown = (class, refl)
object_is Opaque place opaque unknown = absurd cc
object_is (Unknown at) place opaque unknown = absurd cc

-- a path that has to lead to an object, and has no fault, gives one
pub object_given : (spec : Spec) (c : Context) (path : Path) → faults_of_object spec c path ≡ []
    → (class : ℕ) × (target_of spec c path ≡ Object class) × Gives (form_of spec) (standing_in c) (reach_of spec c path) class
object_given spec c path none =
    let parts = none_of_both (is_opaque path.place (target_of spec c path)) (faults_of_path spec c path) none in
    let is = object_is (target_of spec c path) path.place parts.0 (path_parts spec c path parts.1).0 in
    (is.0, is.1, given spec c path is.0 is.1 parts.1)

-- the way to the owner of an assigned field may be read
pub readable : (spec : Spec) (c : Context) (way : Way) (class : ℕ) → end_of spec c way ≡ Object class → field_unready spec c (from_this way) ≡ []
    → IsReadable c.unset way.slot (reach_by spec c way).fields
readable spec c way class e read = by way.slot way.names e read
  where
    by : (slot : ℕ) (names : List Word) → end_of spec c (record { slot = slot; names = names }) ≡ Object class
        → field_unready spec c (from_this (record { slot = slot; names = names })) ≡ []
        → IsReadable c.unset slot (reach_by spec c (record { slot = slot; names = names })).fields
    by zero [] e read = tt
    by zero (w ∷ ws) e read = let next = begins spec (along spec (Object c.class) w) ws class e in own_ready spec c w next.0 next.1 read
    by (suc n) names e read = tt
