-- The form of a well-formed tree within the limits is in range.
use Rattle.std.proofs.Common.{◌≡◌, ℕ, zero, suc, ◌+◌, ◌<◌, ◌≤◌, Bool, true, false, List, [], ◌∷◌, ◌++◌, length, map, arith, refl, ap, sym, subst, ◌∙◌, length-append}
use Rattle.std.specs.List.{flat_map, last_or}
use Rattle.std.specs.Option.{option_map, option_map_or, unwrap_or}
use Rattle.std.specs.Prelude.{Option, Some, None, IfSome, if◌then◌else◌, is_some, nat_lt, not, slice_get}
use Rattle.std.proofs.lemmas.List.{length-map}
use Rattle.std.proofs.lemmas.Bool.{ltb-false}
use Rattle.std.proofs.lemmas.Option.{slice_get_within}
use Rattle.std.proofs.lemmas.Slice.Zip.{AllZip-long}
use Rattle.easl_model.specs.{ActHasFewArguments, ActInRange, ActsHaveFewArguments, ActsInRange, AreTyped, Assign, Block, Body, ClassInRange, Clause, Declare}
use Rattle.easl_model.specs.{HasFewArguments, IsChecked, IsInRange, IsOf, IsTypedStatement, IsWellFormed, IsWithinLimits, MethodInRange, MethodKeepsLimits}
use Rattle.easl_model.specs.{Returns, SourceInRange, Standing, Statement, Takes, Way, Written, act_of, acts_of, after, after_all, assigned_by, beyond}
use Rattle.easl_model.specs.{block_of, bodies_in, bodies_of, class_named, class_number, class_of, classes_from, clause_of, clauses, codes_in, constructor_in}
use Rattle.easl_model.specs.{constructor_of, constructors_in, count_in_place, end_of, ends_unset, excess_of_class, faults_of_block, faults_of_bodies}
use Rattle.easl_model.specs.{faults_of_body, faults_of_class, faults_of_clauses, faults_of_header, faults_of_return, fields_in, form_of, method_of}
use Rattle.easl_model.specs.{methods_in, no_class, other_name, owner_of, params_of, position_in, reach_by, second_constructors, second_names, source_of}
use Rattle.easl_model.specs.{start_of, statement_of, statements_at, statements_in, statements_of, taken_by, test_of, tests_of, too_long, way_of, written_by}
use Rattle.easl_model.specs.{written_in}
use Rattle.easl_model.specs.BodyFaults.{no_return}
use Rattle.easl_model.specs.Form.{Form}
use Rattle.easl_model.specs.Statements.{Statements}
use Rattle.easl_model.specs.Statements as act
use Rattle.easl_model.specs.Steps.{If, none, ◌▸◌}
use Rattle.easl_model.specs.declared.fault.Rule.TheVariants as rule
use Rattle.easl_model.specs.declared.fault.Which.TheVariants as which
use Rattle.easl_model.specs.declared.form.ClassForm.{ClassForm}
use Rattle.easl_model.specs.declared.form.Method.{Method}
use Rattle.easl_model.specs.declared.form.Source.{Source}
use Rattle.easl_model.specs.declared.form.Source.TheVariants as source
use Rattle.easl_model.specs.declared.scope.Context.{Context}
use Rattle.easl_model.specs.declared.tree.Class.{Class}
use Rattle.easl_model.specs.declared.tree.Code.{Code}
use Rattle.easl_model.specs.declared.tree.Field.{Field}
use Rattle.easl_model.specs.declared.tree.Param.{Param}
use Rattle.easl_model.specs.declared.tree.Requires.{Requires}
use Rattle.easl_model.specs.declared.tree.Sort.{Sort}
use Rattle.easl_model.specs.declared.tree.Sort.TheVariants as sort
use Rattle.easl_model.specs.declared.tree.Spec.{Spec}
use Rattle.easl_model.specs.declared.tree.Word.{Word}
use Rattle.easl_model.proofs.BodyTypes.{body_typed, given_by, returns_typed}
use Rattle.easl_model.proofs.Constructors.{IsFrom, body_from, class_there, classes_many, constructor_found, map_at, params_are, taken_is}
use Rattle.easl_model.proofs.Folds.{change_act, if_act, local_act, write_act}
use Rattle.easl_model.proofs.Items.{all_from_places, item_at}
use Rattle.easl_model.proofs.None.{none_at, none_of_both, none_of_five, none_of_four, not_broken, not_not}
use Rattle.easl_model.proofs.Reaching.{standing_in}
use Rattle.easl_model.proofs.TreeBounds.{KeepsLimits, bodies_bounds, class_bounds, constructor_bounds, none_beyond}

-- classes that are named are there

number_within : (spec : Spec) (name : List ℕ) → IfSome (class_named spec name) (λ n. n < length (form_of spec).classes)
number_within spec name = by (class_named spec name) refl
  where
    by : (o : Option ℕ) → class_named spec name ≡ o → IfSome o (λ n. n < length (form_of spec).classes)
    by None e = tt
    by (Some n) e = let c = class_there spec name n e in omega (arith, classes_many spec, slice_get_within spec.classes n c.0 c.1)

sort_within : (spec : Spec) (s : Sort) → IfSome (class_of spec s) (λ n. n < length (form_of spec).classes)
sort_within spec sort.Void = tt
sort_within spec (sort.Opaque kind) = tt
sort_within spec (sort.Class w) = number_within spec w.name

field_within : (spec : Spec) (w : Word) → no_class spec w ≡ [] → class_number spec w < length (form_of spec).classes
field_within spec w free = by (class_named spec w.name) (number_within spec w.name) (not_not (is_some (class_named spec w.name)) (not_broken (not (is_some (class_named spec w.name))) rule.Unknown w.place free))
  where
    by : (o : Option ℕ) → IfSome o (λ n. n < length (form_of spec).classes) → is_some o ≡ true → unwrap_or o 0 < length (form_of spec).classes
    by None within is = absurd cc
    by (Some n) within is = within

-- a class of the form, by its place
record IsForm (spec : Spec) (c : Class) (x : ClassForm) : Type 0 where
  names : length x.field_names ≡ length (fields_in c.members)
  classes : x.field_classes ≡ map (λ (f : Field). class_number spec f.class) (fields_in c.members)

form_at : (spec : Spec) (methods : ℕ) (cs : List Class) (k : ℕ) (x : ClassForm) → slice_get (classes_from spec methods cs) k ≡ Some x
    → (c : Class) × (slice_get cs k ≡ Some c) × IsForm spec c x
form_at spec methods [] k x at = absurd cc
form_at spec methods (c ∷ cs) zero x at =
    let made : ClassForm = record {
      name = c.name.name;
      field_names = map (λ (f : Field). f.name.name) (fields_in c.members);
      field_classes = map (λ (f : Field). class_number spec f.class) (fields_in c.members);
      constructor = methods;
    } in
    let same : made ≡ x = cc in
    (c, refl, subst (IsForm spec c) same (record { names = length-map (fields_in c.members) (λ (f : Field). f.name.name); classes = refl }))
form_at spec methods (c ∷ cs) (suc k) x at = form_at spec (methods + length (bodies_in 0 c)) cs k x at

-- the fields' classes are there
fields_there : (spec : Spec) (c : Class) → faults_of_class spec c ≡ [] → flat_map (λ (f : Field). no_class spec f.class) (fields_in c.members) ≡ []
fields_there spec c free =
    let names = second_names [] (map (λ f. f.name) (fields_in c.members)) in
    let methods = second_names [] (map (λ code. code.name) (methods_in c.members)) in
    let constructors = second_constructors (constructors_in c.members) in
    let fields = flat_map (λ (f : Field). no_class spec f.class) (fields_in c.members) in
    let others = flat_map (other_name c) (constructors_in c.members) in
    let a = none_of_both (names ++ methods ++ constructors ++ fields ++ others) (flat_map (faults_of_header spec) (codes_in c.members)) free in
    let b = none_of_both (names ++ methods ++ constructors ++ fields) others a.0 in
    (none_of_four names methods constructors fields b.0).3

class_in_range : (spec : Spec) (k : ℕ) (x : ClassForm) → IsWellFormed spec → IsWithinLimits spec → slice_get (form_of spec).classes k ≡ Some x
    → ClassInRange (length (form_of spec).classes) (length (form_of spec).methods) x
class_in_range spec k x formed within at =
    let found = form_at spec 0 spec.classes k x at in
    let c = found.0 in
    let classes = (none_of_both (second_names [] (map (λ d. d.name) spec.classes)) (flat_map (faults_of_class spec) spec.classes) formed.headers).1 in
    let free = fields_there spec c (none_at (faults_of_class spec) spec.classes k c classes found.1) in
    let kept = (none_of_both (beyond 64 which.Classes (map (λ d. d.place) spec.classes)) (flat_map excess_of_class spec.classes) within).1 in
    let bounds = class_bounds c (none_at excess_of_class spec.classes k c kept found.1) in
    let made = constructor_found spec k c found.1 in
    let number : constructor_of (form_of spec) k ≡ x.constructor = ap (λ (o : Option ClassForm). unwrap_or (option_map (λ (d : ClassForm). d.constructor) o) 0) at in
    record {
      named = found.2.names ∙ sym (ap length found.2.classes ∙ length-map (fields_in c.members) (λ (f : Field). class_number spec f.class));
      few = omega (arith, bounds.fields, ap length found.2.classes, length-map (fields_in c.members) (λ (f : Field). class_number spec f.class));
      fields = rw found.2.classes (all_from_places (λ n. n < length (form_of spec).classes) (map (λ (f : Field). class_number spec f.class) (fields_in c.members)) (λ n y there.
          let f = map_at (λ (f : Field). class_number spec f.class) (fields_in c.members) n y there in
          subst (λ z. z < length (form_of spec).classes) f.2 (field_within spec f.0.class (none_at (λ (g : Field). no_class spec g.class) (fields_in c.members) n f.0 free f.1))));
      made = subst (λ n. n < length (form_of spec).methods) number (slice_get_within (form_of spec).methods (constructor_of (form_of spec) k) _ made);
    }

-- what typed values and statements make is there, with few arguments where constructors take few

module _ (form : Form) (few : (class : ℕ) → class < length form.classes → length (taken_by form class) ≤ 4) where
  source_in_range : (s : Standing) (v : Source) (class : ℕ) → IsOf form s v class → SourceInRange (length form.classes) v
  source_in_range s (source.Reach r) class is = tt
  source_in_range s (source.Make made args) class is = is.1

  source_has_few : (s : Standing) (v : Source) (class : ℕ) → IsOf form s v class → HasFewArguments v
  source_has_few s (source.Reach r) class is = tt
  source_has_few s (source.Make made args) class is =
      omega (arith, few made is.1, AllZip-long (Takes form s) (taken_by form made) args is.2)

  mutual
    act_in_range : (s : Standing) (x : Statement) (end : Standing) → IsTypedStatement form s x end → ActInRange (length form.classes) x
    act_in_range s (act.Local v) end is = source_in_range s v is.0 is.1
    act_in_range s (act.Change slot v) end is = source_in_range s v is.0 is.3
    act_in_range s (act.Write target field v) end is = source_in_range s v is.0 is.3
    act_in_range s (act.If c first second) end is = (acts_in_range s first is.0 is.3, acts_in_range s second is.1 is.4)

    acts_in_range : (s : Standing) (xs : Statements) (end : Standing) → AreTyped form s xs end → ActsInRange (length form.classes) xs
    acts_in_range s act.none end are = tt
    acts_in_range s (act.◌▸◌ x xs) end are = (act_in_range s x are.0 are.1, acts_in_range are.0 xs end are.2)

  mutual
    act_has_few : (s : Standing) (x : Statement) (end : Standing) → IsTypedStatement form s x end → ActHasFewArguments x
    act_has_few s (act.Local v) end is = source_has_few s v is.0 is.1
    act_has_few s (act.Change slot v) end is = source_has_few s v is.0 is.3
    act_has_few s (act.Write target field v) end is = source_has_few s v is.0 is.3
    act_has_few s (act.If c first second) end is = (acts_have_few s first is.0 is.3, acts_have_few s second is.1 is.4)

    acts_have_few : (s : Standing) (xs : Statements) (end : Standing) → AreTyped form s xs end → ActsHaveFewArguments xs
    acts_have_few s act.none end are = tt
    acts_have_few s (act.◌▸◌ x xs) end are = (act_has_few s x are.0 are.1, acts_have_few are.0 xs end are.2)

  returned_in_range : (s : Standing) (result : Option ℕ) (v : Option Source) → Returns form s result v
      → IfSome v (SourceInRange (length form.classes)) × IfSome v HasFewArguments
  returned_in_range s result None is = (tt, tt)
  returned_in_range s None (Some v) is = absurd is
  returned_in_range s (Some class) (Some v) is = (source_in_range s v class is, source_has_few s v class is)

-- an assignment is one statement
one_assigned : (spec : Spec) (c : Context) (way : Way) (last : Option Word) (v : Source) → written_by (statement_of (assigned_by spec c way last v)) ≡ 1
one_assigned spec c way None v = ap written_by (change_act way.slot v)
one_assigned spec c way (Some last) v =
    let owner = owner_of way in
    ap written_by (write_act (reach_by spec c owner) (position_in spec (end_of spec c owner) last) v)

-- statements are as many as are written
mutual
  written_one : (spec : Spec) (c : Context) (x : Written) → written_by (statement_of (act_of spec c x)) ≡ length (statements_at x)
  written_one spec c (Declare class name v) = ap written_by (local_act (source_of spec c v))
  written_one spec c (Assign path v) = let way = way_of c path in one_assigned spec c way (last_or None way.names) (source_of spec c v)
  written_one spec c (If place test first second has_else) =
      let is = ap written_by (if_act (test_of spec c test) (acts_of spec c first) (acts_of spec c second)) in
      omega (arith, is, written_all spec c first, written_all spec c second, length-append (statements_in first) (statements_in second))

  written_all : (spec : Spec) (c : Context) (xs : Block) → written_in (statements_of (acts_of spec c xs)) ≡ length (statements_in xs)
  written_all spec c none = refl
  written_all spec c (x ▸ xs) = omega (arith, written_one spec c x, written_all spec (after spec c x) xs, length-append (statements_at x) (statements_in xs))

tests_many : (spec : Spec) (c : Context) (xs : List Clause) → length (tests_of spec c (clauses xs)) ≡ length xs
tests_many spec c [] = refl
tests_many spec c (x ∷ xs) = omega (arith, tests_many spec c xs)

-- constructors take few
few_taken : (spec : Spec) → IsWithinLimits spec → (class : ℕ) → class < length (form_of spec).classes → length (taken_by (form_of spec) class) ≤ 4
few_taken spec within class there =
    let c = item_at spec.classes class (omega (arith, there, classes_many spec)) in
    let kept = (none_of_both (beyond 64 which.Classes (map (λ d. d.place) spec.classes)) (flat_map excess_of_class spec.classes) within).1 in
    let bounds = constructor_bounds c.0 (class_bounds c.0 (none_at excess_of_class spec.classes class c.0 kept c.1)) in
    let taken = ap length (taken_is spec class c.0 c.1) ∙ length-map (params_of spec class) (λ (p : Param). class_of spec p.sort) in
    let members = ap (λ (o : Option Class). length (option_map_or (λ (code : Code). code.params) (constructor_in (option_map_or (λ (d : Class). d.members) o [])) [])) c.1 in
    omega (arith, bounds.params, taken, members, ap length (params_are spec c.0))

-- a method of the form, by the body that it is of
record IsOfBody (spec : Spec) (m : Method) : Type 0 where
  body : Body
  at : ℕ
  there : slice_get (bodies_of spec) at ≡ Some body
  from : IsFrom spec.classes 0 body
  free : faults_of_body spec body ≡ []
  kept : KeepsLimits body.code
  is : method_of spec body ≡ m

of_body : (spec : Spec) (k : ℕ) (m : Method) → faults_of_bodies spec ≡ [] → IsWithinLimits spec → slice_get (form_of spec).methods k ≡ Some m → IsOfBody spec m
of_body spec k m free within at =
    let b = map_at (method_of spec) (bodies_of spec) k m at in
    let kept = (none_of_both (beyond 64 which.Classes (map (λ d. d.place) spec.classes)) (flat_map excess_of_class spec.classes) within).1 in
    record {
      body = b.0;
      at = k;
      there = b.1;
      from = body_from 0 spec.classes k b.0 b.1;
      free = none_at (faults_of_body spec) (bodies_of spec) k b.0 free b.1;
      kept = (bodies_bounds 0 spec.classes kept).each k b.0 b.1;
      is = b.2;
    }

-- what a body gives is typed
returned_typed : (spec : Spec) (b : Body) → faults_of_body spec b ≡ []
    → Returns (form_of spec) (standing_in (after_all spec (start_of spec b) (block_of b.code.body))) (class_of spec b.code.result) (method_of spec b).value
returned_typed spec b free =
    let start = start_of spec b in
    let end = after_all spec start (block_of b.code.body) in
    let result = class_of spec b.code.result in
    let parts = none_of_five (no_return result (given_by b) b.code.name) (faults_of_clauses spec start (clauses (map (λ (x : Requires). clause_of x.condition) b.code.clauses))) (faults_of_block spec start (block_of b.code.body)) (faults_of_return spec end result (given_by b)) (ends_unset end b.code.name) free in
    returns_typed spec end result (given_by b) b parts.0 parts.3

result_within : (spec : Spec) (b : Body) (constructor : Bool) → b.class < length (form_of spec).classes
    → IfSome (if constructor then Some b.class else class_of spec b.code.result) (λ n. n < length (form_of spec).classes)
result_within spec b true of = of
result_within spec b false of = sort_within spec b.code.result

method_in_range : (spec : Spec) (b : Body) → IsWithinLimits spec → IsFrom spec.classes 0 b → faults_of_body spec b ≡ [] → KeepsLimits b.code
    → MethodInRange (length (form_of spec).classes) (method_of spec b)
method_in_range spec b within from free kept =
    let form = form_of spec in
    let typed = body_typed spec b from free in
    let few = few_taken spec within in
    record {
      of = typed.of;
      named = omega (arith, length-map b.code.params (λ (p : Param). p.name.name), length-map b.code.params (λ (p : Param). class_of spec p.sort));
      few = omega (arith, kept.params, length-map b.code.params (λ (p : Param). class_of spec p.sort));
      params = all_from_places (λ p. IfSome p (λ n. n < length form.classes)) (map (λ (p : Param). class_of spec p.sort) b.code.params) (λ k y at.
          let p = map_at (λ (p : Param). class_of spec p.sort) b.code.params k y at in
          subst (λ o. IfSome o (λ n. n < length form.classes)) p.2 (sort_within spec p.0.sort));
      result = result_within spec b b.constructor typed.of;
      body = acts_in_range form few _ _ typed.end typed.body;
      value = (returned_in_range form few _ (class_of spec b.code.result) (method_of spec b).value (returned_typed spec b free)).0;
    }

method_keeps_limits : (spec : Spec) (b : Body) → IsWithinLimits spec → IsFrom spec.classes 0 b → faults_of_body spec b ≡ [] → too_long spec b ≡ []
    → KeepsLimits b.code
    → MethodKeepsLimits (form_of spec) (method_of spec b)
method_keeps_limits spec b within from free short kept =
    let form = form_of spec in
    let typed = body_typed spec b from free in
    let few = few_taken spec within in
    let conditions = map (λ (x : Requires). clause_of x.condition) b.code.clauses in
    record {
      clauses = omega (arith, kept.clauses, tests_many spec (start_of spec b) conditions, length-map b.code.clauses (λ (x : Requires). clause_of x.condition));
      written = omega (arith, kept.statements, written_all spec (start_of spec b) (block_of b.code.body));
      body = acts_have_few form few _ _ typed.end typed.body;
      value = (returned_in_range form few _ (class_of spec b.code.result) (method_of spec b).value (returned_typed spec b free)).1;
      in_place = ltb-false 1024 (count_in_place form (method_of spec b)) (not_broken (nat_lt 1024 (count_in_place form (method_of spec b))) rule.TooLong b.code.name.place short);
    }

-- where no body breaks a rule, methods are in range
pub methods_in_range : (spec : Spec) → faults_of_bodies spec ≡ [] → IsWithinLimits spec → (k : ℕ) (m : Method) → slice_get (form_of spec).methods k ≡ Some m
    → MethodInRange (length (form_of spec).classes) m
methods_in_range spec free within k m at =
    let b = of_body spec k m free within at in
    subst (MethodInRange (length (form_of spec).classes)) b.is (method_in_range spec b.body within b.from b.free b.kept)

pub form_in_range : (spec : Spec) → IsWellFormed spec → IsWithinLimits spec → IsInRange (form_of spec)
form_in_range spec formed within =
    let form = form_of spec in
    let parts = none_of_both (beyond 64 which.Classes (map (λ d. d.place) spec.classes)) (flat_map excess_of_class spec.classes) within in
    let classes = none_beyond 64 which.Classes (map (λ d. d.place) spec.classes) parts.0 in
    let few : length spec.classes ≤ 64 = omega (arith, classes, length-map spec.classes (λ d. d.place)) in
    let bodies = (bodies_bounds 0 spec.classes parts.1).few in
    record {
      few_classes = omega (arith, few, classes_many spec);
      few_methods = omega (arith, few, bodies, length-map (bodies_of spec) (method_of spec));
      classes = all_from_places (ClassInRange (length form.classes) (length form.methods)) form.classes (λ k x at. class_in_range spec k x formed within at);
      methods = all_from_places (MethodInRange (length form.classes)) form.methods (methods_in_range spec formed.bodies within);
      limits = all_from_places (MethodKeepsLimits form) form.methods (λ k m at.
          let b = of_body spec k m formed.bodies within at in
          let short = none_at (too_long spec) (bodies_of spec) b.at b.body formed.lengths b.there in
          subst (MethodKeepsLimits form) b.is (method_keeps_limits spec b.body within b.from b.free short b.kept));
    }

pub checked_in_range : (form : Form) → IsChecked form → IsInRange form
checked_in_range form checked = subst IsInRange (sym checked.form) (form_in_range checked.tree checked.well_formed checked.readable.limits)
