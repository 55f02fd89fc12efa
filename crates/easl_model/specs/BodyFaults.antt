-- Where a body breaks a rule: one word a rule, and then which rules are asked of what.
use Rattle.std.specs.Prelude.{ℕ, suc, Bool, false, not, ◌==◌, ◌&&◌, List, [], ◌∷◌, ◌++◌, Option, Some, None, is_some, length, map, slice_get}
use Rattle.std.specs.Option.{option_and_then, option_map, option_map_or}
use Rattle.easl_model.specs.Bodies.{Body}
use Rattle.easl_model.specs.Clauses.{Clause, Clauses, clause_of, clauses}
use Rattle.easl_model.specs.Clauses as clause
use Rattle.easl_model.specs.Names.{constructor_in, members_of}
use Rattle.easl_model.specs.declared.place.Place.{Place}
use Rattle.easl_model.specs.declared.tree.Arg.{Arg}
use Rattle.easl_model.specs.declared.tree.Arg.TheVariants as arg
use Rattle.easl_model.specs.declared.tree.New.{New}
use Rattle.easl_model.specs.declared.tree.Param.{Param}
use Rattle.easl_model.specs.declared.tree.Path.{Path}
use Rattle.easl_model.specs.declared.tree.Spec.{Spec}
use Rattle.easl_model.specs.declared.tree.Value.{Value}
use Rattle.easl_model.specs.declared.tree.Value.TheVariants as value
use Rattle.easl_model.specs.declared.tree.Word.{Word}
use Rattle.easl_model.specs.Contexts.{assigned, behind_both, declared, is_declared, is_empty, is_unset, start_of}
use Rattle.easl_model.specs.Faults.{broken_if, fault}
use Rattle.easl_model.specs.Names.{class_named, class_of, field_named}
use Rattle.easl_model.specs.Paths.{Way, field_of_this, from_this, is_this, owner_of, target_of, way_of}
use Rattle.easl_model.specs.Steps.{Block, Written, Declare, Assign, If, block_of, none, ◌▸◌}
use Rattle.easl_model.specs.declared.scope.Context.{Context}
use Rattle.easl_model.specs.declared.fault.Fault.{Fault}
use Rattle.easl_model.specs.declared.fault.Rule.TheVariants as rule
use Rattle.easl_model.specs.declared.scope.Target.{Target}
use Rattle.easl_model.specs.declared.scope.Target.TheVariants.{Object, Opaque, Unknown}

-- the rules

-- a local is named as a variable in scope
abbrev pub named_twice : Context → Word → List Fault
named_twice c name = broken_if (is_declared c name.name) rule.Duplicate name.place

-- a class is not there
abbrev pub no_class : Spec → Word → List Fault
no_class spec w = broken_if (not (is_some (class_named spec w.name))) rule.Unknown w.place

-- a head name or a field is not there
abbrev pub no_name : Target → List Fault
no_name (Object class) = []
no_name Opaque = []
no_name (Unknown place) = fault rule.Unknown place ∷ []

-- an opaque path is compared, used as a value or assigned
abbrev pub is_opaque : Place → Target → List Fault
is_opaque place (Object class) = []
is_opaque place Opaque = fault rule.Mismatch place ∷ []
is_opaque place (Unknown at) = []

-- the two sides of a comparison differ in class
abbrev pub sides_differ : Place → Target → Target → List Fault
sides_differ place (Object left) (Object right) = broken_if (not (left == right)) rule.Mismatch place
sides_differ place left right = []

-- a value differs from its variable, field or result, where that has a class
abbrev pub value_differs : Place → Option ℕ → Target → List Fault
value_differs place (Some taken) (Object given) = broken_if (not (given == taken)) rule.Mismatch place
value_differs place taken given = []

-- an argument differs from its parameter, which is opaque or has a class
abbrev pub argument_differs : Place → Option ℕ → Target → List Fault
argument_differs place (Some taken) (Object given) = broken_if (not (given == taken)) rule.Mismatch place
argument_differs place (Some taken) Opaque = fault rule.Mismatch place ∷ []
argument_differs place None (Object given) = fault rule.Mismatch place ∷ []
argument_differs place taken given = []

-- arguments are too many or too few
abbrev pub wrong_number : ℕ → New → List Fault
wrong_number taken new = broken_if (not (length new.args == taken)) rule.Mismatch new.place

-- `this` alone is assigned
abbrev pub this_assigned : Path → List Fault
this_assigned path = broken_if (is_this path) rule.Mismatch path.place

-- whether the name is that of a field of `this` that is not assigned yet
abbrev pub reads_unset : Spec → Context → Word → Bool
reads_unset spec c w = option_map_or (λ f. is_unset c f.position) (field_named spec c.class w.name) false

-- a field of `this` is read before it is assigned
abbrev pub field_unready : Spec → Context → Option Word → List Fault
field_unready spec c None = []
field_unready spec c (Some w) = broken_if (reads_unset spec c w) rule.Unready w.place

-- `this` stands alone before every field is assigned
abbrev pub this_unready : Context → Path → List Fault
this_unready c path = broken_if (is_this path && not (is_empty c.unset)) rule.Unready path.place

-- what is asked of paths, values and statements

-- of a path whose object is taken
abbrev pub faults_of_path : Spec → Context → Path → List Fault
faults_of_path spec c path = no_name (target_of spec c path) ++ field_unready spec c (from_this (way_of c path)) ++ this_unready c path

-- of a path that has to lead to an object
abbrev pub faults_of_object : Spec → Context → Path → List Fault
faults_of_object spec c path = is_opaque path.place (target_of spec c path) ++ faults_of_path spec c path

-- of the two sides of a comparison
abbrev pub faults_of_sides : Spec → Context → Path → Path → List Fault
faults_of_sides spec c left right =
    faults_of_object spec c left
    ++ faults_of_object spec c right
    ++ sides_differ right.place (target_of spec c left) (target_of spec c right)

abbrev pub place_of_argument : Arg → Place
place_of_argument (arg.Literal w) = w.place
place_of_argument (arg.Path path) = path.place

abbrev pub target_of_argument : Spec → Context → Arg → Target
target_of_argument spec c (arg.Literal w) = Opaque
target_of_argument spec c (arg.Path path) = target_of spec c path

abbrev pub faults_of_argument : Spec → Context → Arg → List Fault
faults_of_argument spec c (arg.Literal w) = []
faults_of_argument spec c (arg.Path path) = faults_of_path spec c path

-- of an argument and the parameter that takes it, where there is one
abbrev pub faults_of_taken : Spec → Context → Option Param → Arg → List Fault
faults_of_taken spec c None x = faults_of_argument spec c x
faults_of_taken spec c (Some p) x = argument_differs (place_of_argument x) (class_of spec p.sort) (target_of_argument spec c x) ++ faults_of_argument spec c x

-- of arguments, from this one on, and the parameters that take them
abbrev pub faults_of_arguments : Spec → Context → List Param → ℕ → List Arg → List Fault
faults_of_arguments spec c params k [] = []
faults_of_arguments spec c params k (x ∷ xs) = faults_of_taken spec c (slice_get params k) x ++ faults_of_arguments spec c params (suc k) xs

-- what the constructor of a class takes; an implicit one takes nothing
abbrev pub params_of : Spec → ℕ → List Param
params_of spec class = option_map_or (λ code. code.params) (constructor_in (members_of spec class)) []

abbrev pub place_of_value : Value → Place
place_of_value (value.Path path) = path.place
place_of_value (value.New new) = new.place

abbrev pub target_of_value : Spec → Context → Value → Target
target_of_value spec c (value.Path path) = target_of spec c path
target_of_value spec c (value.New new) = option_map_or Object (class_named spec new.class.name) (Unknown new.class.place)

-- of a construction that takes these parameters
abbrev pub faults_of_made : Spec → Context → List Param → New → List Fault
faults_of_made spec c params new = wrong_number (length params) new ++ faults_of_arguments spec c params 0 new.args

-- of a construction, by the class that is named
abbrev pub new_by : Spec → Context → New → Option ℕ → List Fault
new_by spec c new None = fault rule.Unknown new.class.place ∷ faults_of_arguments spec c [] 0 new.args
new_by spec c new (Some class) = faults_of_made spec c (params_of spec class) new

abbrev pub faults_of_new : Spec → Context → New → List Fault
faults_of_new spec c new = new_by spec c new (class_named spec new.class.name)

-- of a value by itself
abbrev pub faults_within : Spec → Context → Value → List Fault
faults_within spec c (value.Path path) = faults_of_object spec c path
faults_within spec c (value.New new) = faults_of_new spec c new

-- of a value and the class of what takes it
abbrev pub faults_of_value : Spec → Context → Option ℕ → Value → List Fault
faults_of_value spec c taken v = value_differs (place_of_value v) taken (target_of_value spec c v) ++ faults_within spec c v

-- the class that a target has
abbrev pub class_in : Target → Option ℕ
class_in (Object class) = Some class
class_in Opaque = None
class_in (Unknown place) = None

-- of an assigned path, whose last object is not read
abbrev pub faults_of_assigned : Spec → Context → Path → List Fault
faults_of_assigned spec c path =
    let target = target_of spec c path
    in this_assigned path ++ is_opaque path.place target ++ no_name target ++ field_unready spec c (from_this (owner_of (way_of c path)))

-- of a declaration
abbrev pub faults_of_declared : Spec → Context → Word → Word → Value → List Fault
faults_of_declared spec c class name v = no_class spec class ++ named_twice c name ++ faults_of_value spec c (class_named spec class.name) v

-- of a clause
abbrev mutual
  pub faults_of_clause : Spec → Context → Clause → List Fault
  faults_of_clause spec c (clause.Same left right) = faults_of_sides spec c left right
  faults_of_clause spec c (clause.Differ left right) = faults_of_sides spec c left right
  faults_of_clause spec c (clause.All cs) = faults_of_clauses spec c cs
  faults_of_clause spec c (clause.Any cs) = faults_of_clauses spec c cs

  pub faults_of_clauses : Spec → Context → Clauses → List Fault
  faults_of_clauses spec c clause.none = []
  faults_of_clauses spec c (clause.more x xs) = faults_of_clause spec c x ++ faults_of_clauses spec c xs

-- behind an assignment: where the way is a field of `this`, that one is assigned
abbrev pub set_by : Spec → Context → Way → Context
set_by spec c way = option_map_or (λ f. assigned f.position c) (option_and_then (λ w. field_named spec c.class w.name) (field_of_this way)) c

-- behind a statement
abbrev mutual
  pub after : Spec → Context → Written → Context
  after spec c (Declare class name v) = declared spec class name c
  after spec c (Assign path v) = set_by spec c (way_of c path)
  after spec c (If place test first second has_else) = behind_both c (after_all spec c first) (after_all spec c second)

  pub after_all : Spec → Context → Block → Context
  after_all spec c none = c
  after_all spec c (x ▸ xs) = after_all spec (after spec c x) xs

-- of a statement
abbrev mutual
  pub faults_of_written : Spec → Context → Written → List Fault
  faults_of_written spec c (Declare class name v) = faults_of_declared spec c class name v
  faults_of_written spec c (Assign path v) = faults_of_assigned spec c path ++ faults_of_value spec c (class_in (target_of spec c path)) v
  faults_of_written spec c (If place test first second has_else) =
      faults_of_clause spec c test ++ faults_of_block spec c first ++ faults_of_block spec c second

  pub faults_of_block : Spec → Context → Block → List Fault
  faults_of_block spec c none = []
  faults_of_block spec c (x ▸ xs) = faults_of_written spec c x ++ faults_of_block spec (after spec c x) xs

-- of a `return`: it stands exactly where the result is of a class
abbrev pub faults_of_return : Spec → Context → Option ℕ → Option Value → List Fault
faults_of_return spec c result None = []
faults_of_return spec c None (Some v) = fault rule.Mismatch (place_of_value v) ∷ faults_within spec c v
faults_of_return spec c (Some class) (Some v) = faults_of_value spec c (Some class) v

abbrev pub no_return : Option ℕ → Option Value → Word → List Fault
no_return (Some class) None name = fault rule.Mismatch name.place ∷ []
no_return result v name = []

-- a constructor ends with an unassigned field
abbrev pub ends_unset : Context → Word → List Fault
ends_unset c name = broken_if (not (is_empty c.unset)) rule.Unready name.place

-- of a body
abbrev pub faults_of_body : Spec → Body → List Fault
faults_of_body spec b =
    let start = start_of spec b
    in let result = class_of spec b.code.result
    in let given = option_map (λ r. r.value) b.code.value
    in let end = after_all spec start (block_of b.code.body)
    in no_return result given b.code.name
    ++ faults_of_clauses spec start (clauses (map (λ c. clause_of c.condition) b.code.clauses))
    ++ faults_of_block spec start (block_of b.code.body)
    ++ faults_of_return spec end result given
    ++ ends_unset end b.code.name
