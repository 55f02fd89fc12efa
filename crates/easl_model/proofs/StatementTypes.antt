-- Statements without a fault are typed.
use Rattle.std.proofs.Common.{◌≡◌, ℕ, zero, suc, false, List, [], ◌∷◌, ◌++◌, map, refl, ap, sym, subst, ◌∙◌, arith}
use Rattle.std.specs.List.{fold, last_or}
use Rattle.std.specs.Option.{option_and_then, option_map_or}
use Rattle.std.specs.Prelude.{Option, Some, None, not, slice_get, is_some}
use Rattle.std.proofs.lemmas.List.{map-append}
use Rattle.easl_model.specs.{AreTyped, Assign, Block, Declare, IsOf, IsTypedStatement, Standing, Way, Written, act_of, acts_of, after, after_all, along}
use Rattle.easl_model.specs.{assigned, assigned_by, broken_if, but_last, class_in, class_named, end_of, faults_of_assigned, faults_of_block, faults_of_clause}
use Rattle.easl_model.specs.{faults_of_declared, faults_of_value, faults_of_written, field_named, field_of_this, field_unready, fields_of, form_of, from_this}
use Rattle.easl_model.specs.{is_opaque, is_this, is_this_by, left_by, named_twice, named_way, no_name, owner_of, position_in, reach_by, set_by, slot_target}
use Rattle.easl_model.specs.{source_of, statement_of, statements_of, target_of, test_of, this_assigned, valued, variable_named, way_by, way_of}
use Rattle.easl_model.specs.declared.form.Act.{Act}
use Rattle.easl_model.specs.declared.form.Source.{Source}
use Rattle.easl_model.specs.declared.tree.Path.{Path}
use Rattle.easl_model.specs.declared.tree.Spec.{Spec}
use Rattle.easl_model.specs.declared.tree.Value.{Value}
use Rattle.easl_model.specs.declared.tree.Word.{Word}
use Rattle.easl_model.specs.Steps.{If, ◌▸◌}
use Rattle.easl_model.specs.Steps as steps
use Rattle.easl_model.specs.declared.scope.Context.{Context}
use Rattle.easl_model.specs.declared.scope.Variable.{Variable}
use Rattle.easl_model.specs.declared.fault.Rule.TheVariants as rule
use Rattle.easl_model.specs.declared.scope.FieldAt.{FieldAt}
use Rattle.easl_model.specs.declared.scope.Target.{Target}
use Rattle.easl_model.specs.declared.scope.Target.TheVariants.{Object, Opaque, Unknown}
use Rattle.easl_model.proofs.None.{none_of_both, none_of_four, none_of_three, not_broken}
use Rattle.easl_model.proofs.Reaching.{next_class, reached, slot_known, standing_in}
use Rattle.easl_model.proofs.Ready.{object_is, object_is, readable}
use Rattle.easl_model.proofs.ConditionTypes.{clause_typed}
use Rattle.easl_model.proofs.Folds.{change_act, if_act, local_act, write_act}
use Rattle.easl_model.proofs.ValueTypes.{value_typed}

-- a statement without a fault is typed, and stands before what it should
abbrev pub Follows : Spec → Context → Written → Type 0
Follows spec c x = IsTypedStatement (form_of spec) (standing_in c) (statement_of (act_of spec c x)) (standing_in (after spec c x))

declare_typed : (spec : Spec) (c : Context) (class name : Word) (v : Value) → faults_of_declared spec c class name v ≡ [] → Follows spec c (Declare class name v)
declare_typed spec c class name v none = by (class_named spec class.name) refl none
  where
    by : (o : Option ℕ) → class_named spec class.name ≡ o
        → broken_if (not (is_some o)) rule.Unknown class.place ++ named_twice c name ++ faults_of_value spec c o v ≡ []
        → Follows spec c (Declare class name v)
    by None named none = absurd cc
    by (Some of) named none =
        let rest = none_of_both (named_twice c name) (faults_of_value spec c (Some of) v) none in
        let local : Variable = record { name = name.name; class = Some of } in
        let local_is : record { name = name.name; class = class_named spec class.name } ≡ local = ap (λ (o : Option ℕ). let x : Variable = record { name = name.name; class = o } in x) named in
        let behind = ap (λ ss. let x : Standing = record { slots = Some c.class ∷ ss; unset = c.unset } in x)
        (sym (map-append (λ (x : Variable). x.class) c.variables (local ∷ [])) ∙ ap (λ x. map (λ (y : Variable). y.class) (c.variables ++ x ∷ [])) (sym local_is)) in
        rw (local_act (source_of spec c v)) (of, value_typed spec c v of rest.1, sym behind)

-- the last name of a way
last_step : (spec : Spec) (t : Target) (names : List Word) (last : Word) → last_or None names ≡ Some last
    → fold (along spec) t names ≡ along spec (fold (along spec) t (but_last names)) last
last_step spec t [] last e = absurd cc
last_step spec t (w ∷ []) last e = let same : w ≡ last = cc in ap (along spec t) same
last_step spec t (w ∷ v ∷ names) last e = last_step spec (along spec t w) (v ∷ names) last e

lasts : (w : Word) (ws : List Word) → (last : Word) × (last_or (Some w) ws ≡ Some last)
lasts w [] = (w, refl)
lasts w (v ∷ ws) = lasts v ws

-- an object is reached by a last name from an object
owner_object : (spec : Spec) (t : Target) (last : Word) (class : ℕ) → along spec t last ≡ Object class → (of : ℕ) × (t ≡ Object of)
owner_object spec (Object of) last class e = (of, refl)
owner_object spec Opaque last class e = absurd cc
owner_object spec (Unknown place) last class e = absurd cc

-- `this` is not what is assigned
not_this : (c : Context) (head : Option Word) (fields : List Word) → is_this_by head fields ≡ false → (way_by c head fields).slot ≡ 0
    → (way_by c head fields).names ≡ [] → ⊥
not_this c None [] e slot names = absurd cc
not_this c None (w ∷ ws) e slot names = absurd cc
not_this c (Some w) fields e slot names = by (variable_named c w.name) slot names
  where
    by : (o : Option ℕ) → (named_way w fields o).slot ≡ 0 → (named_way w fields o).names ≡ [] → ⊥
    by None slot names = absurd cc
    by (Some n) slot names = absurd (omega (arith, slot))

-- what is left of the unset fields behind the write of a field
unset_left : (spec : Spec) (c : Context) (slot : ℕ) (names : List Word) (last : Word) (class : ℕ) → last_or None names ≡ Some last
    → end_of spec c (record { slot = slot; names = names }) ≡ Object class
    → left_by slot (reach_by spec c (record { slot = slot; names = but_last names })).fields (position_in spec (end_of spec c (record { slot = slot; names = but_last names })) last) c.unset ≡ (set_by spec c (record { slot = slot; names = names })).unset
unset_left spec c slot [] last class e there = absurd cc
unset_left spec c (suc n) (w ∷ []) last class e there = refl
unset_left spec c (suc n) (w ∷ v ∷ names) last class e there = refl
unset_left spec c zero (w ∷ v ∷ names) last class e there = refl
unset_left spec c zero (w ∷ []) last class e there = by (field_named spec c.class w.name) refl there
  where
    same : w ≡ last
    same = cc

    by : (o : Option FieldAt) → field_named spec c.class w.name ≡ o
        → option_map_or (λ (f : FieldAt). valued f.class) o (Unknown w.place) ≡ Object class
        → left_by 0 [] (position_in spec (Object c.class) last) c.unset ≡ (option_map_or (λ (f : FieldAt). assigned f.position c) o c).unset
    by None found is = absurd cc
    by (Some f) found is = rw (← same, found) refl

slots_stay : (spec : Spec) (c : Context) (way : Way) → (standing_in (set_by spec c way)).slots ≡ (standing_in c).slots
slots_stay spec c way = by (option_and_then (λ (w : Word). field_named spec c.class w.name) (field_of_this way))
  where
    by : (o : Option FieldAt) → (standing_in (option_map_or (λ (f : FieldAt). assigned f.position c) o c)).slots ≡ (standing_in c).slots
    by None = refl
    by (Some f) = refl

-- what an assignment comes to
abbrev Assigns : Spec → Context → Way → Act → Type 0
Assigns spec c way a = IsTypedStatement (form_of spec) (standing_in c) (statement_of a) (standing_in (set_by spec c way))

assigned_typed : (spec : Spec) (c : Context) (way : Way) (s : Source) (class : ℕ) → (way.slot ≡ 0 → way.names ≡ [] → ⊥)
    → end_of spec c way ≡ Object class → field_unready spec c (from_this (owner_of way)) ≡ [] → IsOf (form_of spec) (standing_in c) s class
    → Assigns spec c way (assigned_by spec c way (last_or None way.names) s)
assigned_typed spec c way s class other e read of = by way.slot way.names other e read
  where
    same_standing : (ss ts : List (Option ℕ)) (us vs : List ℕ) → ss ≡ ts → us ≡ vs
        → (let x : Standing = record { slots = ss; unset = us } in x) ≡ record { slots = ts; unset = vs }
    same_standing ss ts us vs e f = ap (λ xs. let x : Standing = record { slots = xs; unset = us } in x) e ∙ ap (λ xs. let x : Standing = record { slots = ts; unset = xs } in x) f

    by : (slot : ℕ) (names : List Word) → (slot ≡ 0 → names ≡ [] → ⊥) → end_of spec c (record { slot = slot; names = names }) ≡ Object class
        → field_unready spec c (from_this (owner_of (record { slot = slot; names = names }))) ≡ []
        → Assigns spec c (record { slot = slot; names = names }) (assigned_by spec c (record { slot = slot; names = names }) (last_or None names) s)
    by zero [] other e read = absurd (other refl refl)
    by (suc n) [] other e read = rw (change_act (suc n) s) (class, omega arith, slot_known c (suc n) class e, of, refl)
    by slot (w ∷ names) other e read =
        let last = lasts w names in
        let way : Way = record { slot = slot; names = w ∷ names } in
        let stepped : along spec (end_of spec c (owner_of way)) last.0 ≡ Object class = sym (last_step spec (slot_target c slot) (w ∷ names) last.0 last.1) ∙ e in
        let owner = owner_object spec (end_of spec c (owner_of way)) last.0 class stepped in
        let next : along spec (Object owner.0) last.0 ≡ Object class = ap (λ t. along spec t last.0) (sym owner.1) ∙ stepped in
        let position = ap (λ t. position_in spec t last.0) owner.1 in
        let field = ap (slice_get (fields_of (form_of spec) owner.0)) position ∙ next_class spec owner.0 class last.0 next in
        let left = unset_left spec c slot (w ∷ names) last.0 class last.1 e in
        let target = reach_by spec c (owner_of way) in
        let at = position_in spec (end_of spec c (owner_of way)) last.0 in
        let written : Assigns spec c way (assigned_by spec c way (Some last.0) s) =
        rw (write_act target at s) (
          class,
          (owner.0, reached spec c (owner_of way) owner.0 owner.1, field),
          readable spec c (owner_of way) owner.0 owner.1 read,
          of,
          sym (same_standing _ _ _ _ (sym (slots_stay spec c way)) left),
        ) in
        subst (λ o. Assigns spec c way (assigned_by spec c way o s)) (sym last.1) written

assign_typed : (spec : Spec) (c : Context) (path : Path) (v : Value) → faults_of_written spec c (Assign path v) ≡ [] → Follows spec c (Assign path v)
assign_typed spec c path v none =
    let parts = none_of_both (faults_of_assigned spec c path) (faults_of_value spec c (class_in (target_of spec c path)) v) none in
    let own = none_of_four (this_assigned path) (is_opaque path.place (target_of spec c path)) (no_name (target_of spec c path)) (field_unready spec c (from_this (owner_of (way_of c path)))) parts.0 in
    let object = object_is (target_of spec c path) path.place own.1 own.2 in
    let taken : faults_of_value spec c (Some object.0) v ≡ [] = ap (λ t. faults_of_value spec c (class_in t) v) (sym object.1) ∙ parts.1 in
    assigned_typed spec c (way_of c path) (source_of spec c v) object.0 (not_this c path.head path.fields (not_broken (is_this path) rule.Mismatch path.place own.0)) object.1 own.3 (value_typed spec c v object.0 taken)

mutual
  pub statement_typed : (spec : Spec) (c : Context) (x : Written) → faults_of_written spec c x ≡ [] → Follows spec c x
  statement_typed spec c (Declare class name v) none = declare_typed spec c class name v none
  statement_typed spec c (Assign path v) none = assign_typed spec c path v none
  statement_typed spec c (If place test first second has_else) none =
      let parts = none_of_three (faults_of_clause spec c test) (faults_of_block spec c first) (faults_of_block spec c second) none in
      rw (if_act (test_of spec c test) (acts_of spec c first) (acts_of spec c second)) (
        standing_in (after_all spec c first),
        standing_in (after_all spec c second),
        clause_typed spec c test parts.0,
        block_typed spec c first parts.1,
        block_typed spec c second parts.2,
        refl,
      )

  pub block_typed : (spec : Spec) (c : Context) (xs : Block) → faults_of_block spec c xs ≡ []
      → AreTyped (form_of spec) (standing_in c) (statements_of (acts_of spec c xs)) (standing_in (after_all spec c xs))
  block_typed spec c steps.none free = refl
  block_typed spec c (x ▸ xs) free =
      let parts = none_of_both (faults_of_written spec c x) (faults_of_block spec (after spec c x) xs) free in
      (standing_in (after spec c x), statement_typed spec c x parts.0, block_typed spec (after spec c x) xs parts.1)
