-- The bodies of a tree that breaks no rule have typed checked forms.
use Rattle.std.proofs.Common.{◌≡◌, ℕ, ◌<◌, Bool, true, false, [], length, map, refl, ap, sym, subst, ◌∙◌, arith}
use Rattle.std.specs.Option.{option_map}
use Rattle.std.specs.Prelude.{Option, Some, None, if◌then◌else◌, not, All, slice_get}
use Rattle.std.proofs.lemmas.List.{length-map}
use Rattle.std.proofs.lemmas.Simd.{map-map}
use Rattle.std.proofs.lemmas.Option.{slice_get_within}
use Rattle.easl_model.specs.{AreTyped, AreTypedConditions, Body, EndsSo, IsTyped, IsTypedMethod, IsWellFormed, Returns, after_all, block_of, bodies_of}
use Rattle.easl_model.specs.{class_number, class_of, clause_of, clauses, condition_of, conditions, constructor_body, ends_unset, faults_of_block}
use Rattle.easl_model.specs.{faults_of_bodies, faults_of_body, faults_of_clauses, faults_of_return, fields_in, fields_of, form_of, is_empty, members_of}
use Rattle.easl_model.specs.{method_of, source_of, standing_of, start_of, statements_of, variable_of}
use Rattle.easl_model.specs.declared.tree.Field.{Field}
use Rattle.easl_model.specs.declared.tree.Param.{Param}
use Rattle.easl_model.specs.declared.tree.Spec.{Spec}
use Rattle.easl_model.specs.declared.tree.Value.{Value}
use Rattle.easl_model.specs.BodyFaults.{no_return}
use Rattle.easl_model.specs.declared.scope.Context.{Context}
use Rattle.easl_model.specs.declared.scope.Variable.{Variable}
use Rattle.easl_model.specs.declared.fault.Rule.TheVariants as rule
use Rattle.easl_model.proofs.Constructors.{IsFrom, body_from, classes_many, constructor_found, map_at}
use Rattle.easl_model.proofs.None.{empty_is, none_at, none_of_five, not_broken, not_not}
use Rattle.easl_model.proofs.Reaching.{fields_are, standing_in}
use Rattle.easl_model.specs.declared.tree.Requires.{Requires}
use Rattle.easl_model.specs.declared.tree.Return.{Return}
use Rattle.easl_model.proofs.ConditionTypes.{clauses_typed}
use Rattle.easl_model.proofs.Items.{all_from_places, item_at}
use Rattle.easl_model.proofs.StatementTypes.{block_typed}
use Rattle.easl_model.proofs.ValueTypes.{value_typed}

-- before the first statement
starts : (spec : Spec) (b : Body) → standing_in (start_of spec b) ≡ standing_of (form_of spec) (method_of spec b)
starts spec b =
    let slots : map (λ (v : Variable). v.class) (map (variable_of spec) b.code.params) ≡ map (λ (p : Param). class_of spec p.sort) b.code.params = map-map _ _ b.code.params in
    let many : length (fields_in (members_of spec b.class)) ≡ length (fields_of (form_of spec) b.class) = sym (ap length (fields_are spec b.class) ∙ length-map (fields_in (members_of spec b.class)) (λ (f : Field). class_number spec f.class)) in
    rw (slots, many) refl

pub returns_typed : (spec : Spec) (c : Context) (result : Option ℕ) (v : Option Value) (b : Body) → no_return result v b.code.name ≡ []
    → faults_of_return spec c result v ≡ [] → Returns (form_of spec) (standing_in c) result (option_map (source_of spec c) v)
returns_typed spec c None None b missing free = tt
returns_typed spec c None (Some v) b missing free = absurd cc
returns_typed spec c (Some class) None b missing free = absurd cc
returns_typed spec c (Some class) (Some v) b missing free = value_typed spec c v class free

-- the value that a body gives
abbrev pub given_by : Body → Option Value
given_by b = option_map (λ (r : Return). r.value) b.code.value

-- a body of the tree
pub body_typed : (spec : Spec) (b : Body) → IsFrom spec.classes 0 b → faults_of_body spec b ≡ [] → IsTypedMethod (form_of spec) (method_of spec b)
body_typed spec b from free =
    let start = start_of spec b in
    let end = after_all spec start (block_of b.code.body) in
    let result = class_of spec b.code.result in
    let parts = none_of_five (no_return result (given_by b) b.code.name) (faults_of_clauses spec start (clauses (map (λ (x : Requires). clause_of x.condition) b.code.clauses))) (faults_of_block spec start (block_of b.code.body)) (faults_of_return spec end result (given_by b)) (ends_unset end b.code.name) free in
    let unset = empty_is end.unset (not_not (is_empty end.unset) (not_broken (not (is_empty end.unset)) rule.Unready b.code.name.place parts.4)) in
    let class : from.place ≡ b.class = omega (arith, from.number) in
    let there : slice_get spec.classes b.class ≡ Some from.class = subst (λ k. slice_get spec.classes k ≡ Some from.class) class from.at in
    record {
      of = omega (arith, classes_many spec, slice_get_within spec.classes b.class from.class there);
      own = λ constructs. constructor_found spec b.class from.class there ∙ ap (λ x. Some (method_of spec x)) (sym (from.constructor constructs));
      end = standing_in end;
      clauses = subst (λ s. AreTypedConditions (form_of spec) s (conditions (map condition_of (method_of spec b).clauses))) (starts spec b) (clauses_typed spec start (clauses (map (λ (x : Requires). clause_of x.condition) b.code.clauses)) parts.1);
      body = subst (λ s. AreTyped (form_of spec) s (statements_of (method_of spec b).body) (standing_in end)) (starts spec b) (block_typed spec start (block_of b.code.body) parts.2);
      ends = ends_so b.constructor (returns_typed spec end result (given_by b) b parts.0 parts.3) unset;
    }
  where
    ends_so : (so : Bool)
        → Returns (form_of spec) (standing_in (after_all spec (start_of spec b) (block_of b.code.body))) (class_of spec b.code.result) (option_map (source_of spec (after_all spec (start_of spec b) (block_of b.code.body))) (given_by b))
        → (after_all spec (start_of spec b) (block_of b.code.body)).unset ≡ []
        → EndsSo (form_of spec) (standing_in (after_all spec (start_of spec b) (block_of b.code.body))) (record (method_of spec b) { result = (if so then Some b.class else class_of spec b.code.result) }) so
    ends_so true returns unset = (refl, unset)
    ends_so false returns unset = returns

all_typed : (spec : Spec) → faults_of_bodies spec ≡ [] → All (IsTypedMethod (form_of spec)) (form_of spec).methods
all_typed spec free = all_from_places (IsTypedMethod (form_of spec)) (form_of spec).methods (λ k m at.
    let b = map_at (method_of spec) (bodies_of spec) k m at in
    subst (IsTypedMethod (form_of spec)) b.2 (body_typed spec b.0 (body_from 0 spec.classes k b.0 b.1) (none_at (faults_of_body spec) (bodies_of spec) k b.0 free b.1)))

pub form_typed : (spec : Spec) → IsWellFormed spec → IsTyped (form_of spec)
form_typed spec formed = record {
  methods = all_typed spec formed.bodies;
  constructors = λ class within.
      let there : class < length spec.classes = omega (arith, within, classes_many spec) in
      let c = item_at spec.classes class there in
      record { method = method_of spec (constructor_body class c.0); found = constructor_found spec class c.0 c.1; constructs = refl; of = refl };
}
