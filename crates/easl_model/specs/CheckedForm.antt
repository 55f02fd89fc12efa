-- The checked form of a tree: the same tree with numbers in place of names. Where a rule is broken it says nothing.
use Rattle.std.specs.Prelude.{ℕ, ◌+◌, ◌||◌, Bool, true, false, List, [], ◌∷◌, Option, Some, None, if◌then◌else◌, length, map, option_map, unwrap_or}
use Rattle.std.specs.List.{last_or}
use Rattle.std.specs.Option.{option_map_or}
use Rattle.easl_model.specs.Bodies.{Body, bodies_of, bodies_in}
use Rattle.easl_model.specs.Clauses.{Clause, Clauses, clause_of, clauses}
use Rattle.easl_model.specs.Clauses as clause
use Rattle.easl_model.specs.Form.{Form}
use Rattle.easl_model.specs.Names.{fields_in}
use Rattle.easl_model.specs.declared.form.Act.{Act}
use Rattle.easl_model.specs.declared.form.Act.TheVariants as act
use Rattle.easl_model.specs.declared.form.ClassForm.{ClassForm}
use Rattle.easl_model.specs.declared.form.Method.{Method}
use Rattle.easl_model.specs.declared.form.Reach.{Reach}
use Rattle.easl_model.specs.declared.form.Source.{Source}
use Rattle.easl_model.specs.declared.form.Source.TheVariants as source
use Rattle.easl_model.specs.declared.form.Test.{Test}
use Rattle.easl_model.specs.declared.form.Test.TheVariants as test
use Rattle.easl_model.specs.declared.tree.Arg.{Arg}
use Rattle.easl_model.specs.declared.tree.Arg.TheVariants as arg
use Rattle.easl_model.specs.declared.tree.Class.{Class}
use Rattle.easl_model.specs.declared.tree.Path.{Path}
use Rattle.easl_model.specs.declared.tree.Sort.{Sort}
use Rattle.easl_model.specs.declared.tree.Sort.TheVariants as sort
use Rattle.easl_model.specs.declared.tree.Spec.{Spec}
use Rattle.easl_model.specs.declared.tree.Value.{Value}
use Rattle.easl_model.specs.declared.tree.Value.TheVariants as value
use Rattle.easl_model.specs.declared.tree.Word.{Word}
use Rattle.easl_model.specs.BodyFaults.{after, after_all}
use Rattle.easl_model.specs.Contexts.{start_of}
use Rattle.easl_model.specs.Names.{class_named, class_of, field_named}
use Rattle.easl_model.specs.Paths.{Way, along, end_of, owner_of, slot_target, target_of, way_of}
use Rattle.easl_model.specs.Steps.{Block, Written, Declare, Assign, If, block_of, none, ◌▸◌}
use Rattle.easl_model.specs.declared.scope.Context.{Context}
use Rattle.easl_model.specs.declared.scope.Target.{Target}
use Rattle.easl_model.specs.declared.scope.Target.TheVariants.{Object, Opaque, Unknown}

-- the number of a class that is there
abbrev pub class_number : Spec → Word → ℕ
class_number spec w = unwrap_or (class_named spec w.name) 0

-- the position of a field that is there
abbrev pub position_in : Spec → Target → Word → ℕ
position_in spec (Object class) w = option_map_or (λ f. f.position) (field_named spec class w.name) 0
position_in spec Opaque w = 0
position_in spec (Unknown place) w = 0

abbrev pub positions_along : Spec → Target → List Word → List ℕ
positions_along spec from [] = []
positions_along spec from (w ∷ names) = position_in spec from w ∷ positions_along spec (along spec from w) names

abbrev pub reach_by : Spec → Context → Way → Reach
reach_by spec c way = record { slot = way.slot; fields = positions_along spec (slot_target c way.slot) way.names }

abbrev pub reach_of : Spec → Context → Path → Reach
reach_of spec c path = reach_by spec c (way_of c path)

-- an opaque argument is None
abbrev pub argument_by : Reach → Target → Option Reach
argument_by r (Object class) = Some r
argument_by r Opaque = None
argument_by r (Unknown place) = None

abbrev pub argument_of : Spec → Context → Arg → Option Reach
argument_of spec c (arg.Literal w) = None
argument_of spec c (arg.Path path) = argument_by (reach_of spec c path) (target_of spec c path)

abbrev pub source_of : Spec → Context → Value → Source
source_of spec c (value.Path path) = source.Reach (reach_of spec c path)
source_of spec c (value.New new) = source.Make (class_number spec new.class) (map (argument_of spec c) new.args)

-- a slot is changed, or the last field of the way is written
abbrev pub assigned_by : Spec → Context → Way → Option Word → Source → Act
assigned_by spec c way None v = act.Change way.slot v
assigned_by spec c way (Some last) v = let owner = owner_of way in act.Write (reach_by spec c owner) (position_in spec (end_of spec c owner) last) v

abbrev mutual
  pub test_of : Spec → Context → Clause → Test
  test_of spec c (clause.Same left right) = test.Same (reach_of spec c left) (reach_of spec c right)
  test_of spec c (clause.Differ left right) = test.Differ (reach_of spec c left) (reach_of spec c right)
  test_of spec c (clause.All cs) = test.All (tests_of spec c cs)
  test_of spec c (clause.Any cs) = test.Any (tests_of spec c cs)

  pub tests_of : Spec → Context → Clauses → List Test
  tests_of spec c clause.none = []
  tests_of spec c (clause.more x xs) = test_of spec c x ∷ tests_of spec c xs

abbrev mutual
  pub act_of : Spec → Context → Written → Act
  act_of spec c (Declare class name v) = act.Local (source_of spec c v)
  act_of spec c (Assign path v) = let way = way_of c path in assigned_by spec c way (last_or None way.names) (source_of spec c v)
  act_of spec c (If place test first second has_else) = act.If (test_of spec c test) (acts_of spec c first) (acts_of spec c second)

  pub acts_of : Spec → Context → Block → List Act
  acts_of spec c none = []
  acts_of spec c (x ▸ xs) = act_of spec c x ∷ acts_of spec (after spec c x) xs

-- a type that values can have: each but `void`
abbrev pub has_values : Sort → Bool
has_values sort.Void = false
has_values (sort.Opaque kind) = true
has_values (sort.Class name) = true

-- a constructor gives a value, and so does a method unless its result is `void`
abbrev pub gives_value : Body → Bool
gives_value b = b.constructor || has_values b.code.result

-- a constructor's result is its class
abbrev pub result_of : Spec → Body → Option ℕ
result_of spec b = if b.constructor then Some b.class else class_of spec b.code.result

abbrev pub method_of : Spec → Body → Method
method_of spec b =
    let start = start_of spec b
    in let end = after_all spec start (block_of b.code.body)
    in record {
      class = b.class;
      name = b.code.name.name;
      constructor = b.constructor;
      params = map (λ p. class_of spec p.sort) b.code.params;
      names = map (λ p. p.name.name) b.code.params;
      result = result_of spec b;
      gives = gives_value b;
      clauses = tests_of spec start (clauses (map (λ x. clause_of x.condition) b.code.clauses));
      body = acts_of spec start (block_of b.code.body);
      value = option_map (source_of spec end) (option_map (λ r. r.value) b.code.value);
    }

-- the classes, where so many methods stand before them
abbrev pub classes_from : Spec → ℕ → List Class → List ClassForm
classes_from spec methods [] = []
classes_from spec methods (c ∷ rest) =
    record {
      name = c.name.name;
      field_names = map (λ f. f.name.name) (fields_in c.members);
      field_classes = map (λ f. class_number spec f.class) (fields_in c.members);
      constructor = methods;
    } ∷ classes_from spec (methods + length (bodies_in 0 c)) rest

abbrev pub form_of : Spec → Form
form_of spec = record {
  classes = classes_from spec 0 spec.classes;
  methods = map (method_of spec) (bodies_of spec);
}
