-- A tree that breaks no rule has a typed checked form.
use Rattle.std.proofs.Common.{inl, inr, ◌≡◌, ℕ, suc, ◌<◌, true, List, [], ◌∷◌, ◌++◌, length, map, refl, ap, sym, subst, ◌∙◌, arith, append_assoc, length-append}
use Rattle.std.specs.List.{AllZip}
use Rattle.std.specs.Option.{option_map_or, unwrap_or}
use Rattle.std.specs.Prelude.{Option, Some, None, ◌==◌, not, slice_get}
use Rattle.std.proofs.lemmas.Bool.Decides.{eqb_tells}
use Rattle.std.proofs.lemmas.Option.{slice_get_within}
use Rattle.easl_model.specs.declared.place.Place.{Place}
use Rattle.easl_model.specs.declared.tree.Arg.{Arg}
use Rattle.easl_model.specs.declared.tree.Arg.TheVariants as arg
use Rattle.easl_model.specs.declared.tree.New.{New}
use Rattle.easl_model.specs.declared.tree.Param.{Param}
use Rattle.easl_model.specs.declared.tree.Spec.{Spec}
use Rattle.easl_model.specs.declared.tree.Value.{Value}
use Rattle.easl_model.specs.declared.tree.Value.TheVariants as value
use Rattle.easl_model.specs.{Gives, IsOf, Takes, argument_by, argument_differs, argument_of, broken_if, class_named, class_number, class_of}
use Rattle.easl_model.specs.{faults_of_argument, faults_of_arguments, faults_of_made, faults_of_new, faults_of_object, faults_of_taken, faults_of_value}
use Rattle.easl_model.specs.{form_of, new_by, no_name, params_of, place_of_argument, reach_of, source_of, target_of, target_of_argument, target_of_value}
use Rattle.easl_model.specs.{value_differs, wrong_number}
use Rattle.easl_model.specs.declared.scope.Context.{Context}
use Rattle.easl_model.specs.declared.fault.Rule.TheVariants as rule
use Rattle.easl_model.specs.declared.scope.Target.{Target}
use Rattle.easl_model.specs.declared.scope.Target.TheVariants.{Object, Opaque, Unknown}
use Rattle.easl_model.proofs.Constructors.{class_there, classes_many, item_behind, taken_is}
use Rattle.easl_model.proofs.None.{none_of_both, not_broken, not_not}
use Rattle.easl_model.proofs.Reaching.{standing_in}
use Rattle.easl_model.proofs.Ready.{given, object_given, path_parts}

pub same_number : (m n : ℕ) (place : Place) → broken_if (not (m == n)) rule.Mismatch place ≡ [] → m ≡ n
same_number m n place none =
    let equal : (m == n) ≡ true = not_not (m == n) (not_broken (not (m == n)) rule.Mismatch place none) in
    elim (eqb_tells m n) [ inl e ↦ e.1 | inr e ↦ absurd (let other = e.0 in cc) ]

-- arguments

argument_typed : (spec : Spec) (c : Context) (x : Arg) (taken : Option ℕ)
    → argument_differs (place_of_argument x) taken (target_of_argument spec c x) ≡ [] → faults_of_argument spec c x ≡ []
    → Takes (form_of spec) (standing_in c) taken (argument_of spec c x)
argument_typed spec c (arg.Literal w) None differs within = tt
argument_typed spec c (arg.Literal w) (Some class) differs within = absurd cc
argument_typed spec c (arg.Path path) taken differs within = by (target_of spec c path) refl taken differs (path_parts spec c path within).0
  where
    by : (t : Target) → target_of spec c path ≡ t → (taken : Option ℕ) → argument_differs path.place taken t ≡ [] → no_name t ≡ []
        → Takes (form_of spec) (standing_in c) taken (argument_by (reach_of spec c path) t)
    by (Object class) is None differs named = absurd cc
    by (Object class) is (Some of) differs named =
        let one = same_number class of path.place differs in
        subst (λ k. Gives (form_of spec) (standing_in c) (reach_of spec c path) k) one (given spec c path class is within)
    by Opaque is None differs named = tt
    by Opaque is (Some of) differs named = absurd cc
    by (Unknown place) is taken differs named = absurd cc

-- a parameter at the place
arguments_typed : (spec : Spec) (c : Context) (before params : List Param) (k : ℕ) (xs : List Arg) → k ≡ length before → length xs ≡ length params
    → faults_of_arguments spec c (before ++ params) k xs ≡ []
    → AllZip (Takes (form_of spec) (standing_in c)) (map (λ (p : Param). class_of spec p.sort) params) (map (argument_of spec c) xs)
arguments_typed spec c before [] k [] is many none = tt
arguments_typed spec c before (p ∷ params) k [] is many none = absurd (omega (arith, many))
arguments_typed spec c before [] k (x ∷ xs) is many none = absurd (omega (arith, many))
arguments_typed spec c before (p ∷ params) k (x ∷ xs) is many none =
    let at : slice_get (before ++ p ∷ params) k ≡ Some p = rw is (item_behind before p params) in
    let parts = none_of_both (faults_of_taken spec c (slice_get (before ++ p ∷ params) k) x) (faults_of_arguments spec c (before ++ p ∷ params) (suc k) xs) none in
    let one : faults_of_taken spec c (Some p) x ≡ [] = ap (λ o. faults_of_taken spec c o x) (sym at) ∙ parts.0 in
    let two = none_of_both (argument_differs (place_of_argument x) (class_of spec p.sort) (target_of_argument spec c x)) (faults_of_argument spec c x) one in
    let rest : faults_of_arguments spec c ((before ++ p ∷ []) ++ params) (suc k) xs ≡ [] = rw append_assoc parts.1 in (
      argument_typed spec c x (class_of spec p.sort) two.0 two.1,
      arguments_typed spec c (before ++ p ∷ []) params (suc k) xs (omega (arith, is, length-append before (p ∷ []))) (omega (arith, many)) rest,
    )

-- values

made_typed : (spec : Spec) (c : Context) (new : New) (class : ℕ) → class_named spec new.class.name ≡ Some class
    → faults_of_made spec c (params_of spec class) new ≡ [] → IsOf (form_of spec) (standing_in c) (source_of spec c (value.New new)) class
made_typed spec c new class named none =
    let there = class_there spec new.class.name class named in
    let parts = none_of_both (wrong_number (length (params_of spec class)) new) (faults_of_arguments spec c (params_of spec class) 0 new.args) none in
    let many = same_number (length new.args) (length (params_of spec class)) new.place parts.0 in
    let number : class_number spec new.class ≡ class = ap (λ (o : Option ℕ). unwrap_or o 0) named in
    let within : class < length (form_of spec).classes = omega (arith, classes_many spec, slice_get_within spec.classes class there.0 there.1) in
    let args = arguments_typed spec c [] (params_of spec class) 0 new.args refl many parts.1 in
    rw number (refl, within, subst (λ ts. AllZip (Takes (form_of spec) (standing_in c)) ts (map (argument_of spec c) new.args)) (sym (taken_is spec class there.0 there.1)) args)

-- a value without a fault is an object of what takes it
pub value_typed : (spec : Spec) (c : Context) (v : Value) (taken : ℕ) → faults_of_value spec c (Some taken) v ≡ []
    → IsOf (form_of spec) (standing_in c) (source_of spec c v) taken
value_typed spec c (value.Path path) taken none =
    let parts = none_of_both (value_differs path.place (Some taken) (target_of spec c path)) (faults_of_object spec c path) none in
    let object = object_given spec c path parts.1 in
    let differs : value_differs path.place (Some taken) (Object object.0) ≡ [] = ap (value_differs path.place (Some taken)) (sym object.1) ∙ parts.0 in
    subst (λ k. Gives (form_of spec) (standing_in c) (reach_of spec c path) k) (same_number object.0 taken path.place differs) object.2
value_typed spec c (value.New new) taken none = by (class_named spec new.class.name) refl parts.0 parts.1
  where
    parts : (value_differs new.place (Some taken) (target_of_value spec c (value.New new)) ≡ []) × (faults_of_new spec c new ≡ [])
    parts = none_of_both (value_differs new.place (Some taken) (target_of_value spec c (value.New new))) (faults_of_new spec c new) none

    by : (o : Option ℕ) → class_named spec new.class.name ≡ o
        → value_differs new.place (Some taken) (option_map_or Object o (Unknown new.class.place)) ≡ [] → new_by spec c new o ≡ []
        → IsOf (form_of spec) (standing_in c) (source_of spec c (value.New new)) taken
    by None named differs within = absurd cc
    by (Some class) named differs within = subst (λ k. IsOf (form_of spec) (standing_in c) (source_of spec c (value.New new)) k) (same_number class taken new.place differs) (made_typed spec c new class named within)
