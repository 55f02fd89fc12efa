-- What is done at the points of a body, which calls it makes, and which names are set there. Where a rule is broken it says
-- nothing.
use Rattle.std.specs.Prelude.{ℕ, List, [], ◌∷◌, ◌++◌, Option, Some, None, filter, filter_map, fold, if◌then◌else◌, map, option_and_then, option_map}
use Rattle.std.specs.List.{range_with_len}
use Rattle.client_model.specs.Lookups.{is_literal}
use Rattle.client_model.specs.declared.form.CallSite.{CallSite}
use Rattle.client_model.specs.declared.form.Point.{Point}
use Rattle.client_model.specs.declared.form.Point.TheVariants as point
use Rattle.client_model.specs.declared.tree.Rhs.{Rhs}
use Rattle.client_model.specs.declared.tree.Rhs.TheVariants as rhs
use Rattle.client_model.specs.declared.tree.Test.{Test}
use Rattle.client_model.specs.declared.tree.Test.TheVariants as test
use Rattle.client_model.specs.Bodies.{Body, all_in, codes_of, end_of}
use Rattle.client_model.specs.Codes.{result_code, variable_code}
use Rattle.client_model.specs.Contexts.{Assigned, Context, Situated, behind_block, has, meet, value_of_test}
use Rattle.client_model.specs.Settings.{Called, Callee, Kind, Method, Setting, Procedure, callee_of, class_in, kind_of, variable_named}
use Rattle.client_model.specs.Statements.{Statement, Declare, Assign, Do, If, While, Break, Continue, Return}
use Rattle.client_model.specs.Trees.{place_of_value}
use Rattle.easl_model.specs.declared.place.Place.{Place}
use Rattle.easl_model.specs.declared.tree.Word.{Word}

-- the code of what has a class, None where it is opaque
abbrev pub code_by : ℕ → Kind → Option ℕ
code_by code kind = option_map (λ class. code) (class_in kind)

abbrev pub code_of : Setting → Context → Word → Option ℕ
code_of s c w = option_and_then (λ v. code_by v.code v.kind) (variable_named s c.scope w.name)

-- the same of an argument; a literal has none
abbrev pub argument_of : Setting → Context → Word → Option ℕ
argument_of s c w = if is_literal w.name then None else code_of s c w

abbrev pub call_of : Option ℕ → List (Option ℕ) → Place → Called → Point
call_of target args place (Method number) = point.Nothing
call_of target args place (Procedure number) = point.Call target number args place

abbrev pub call_by : Option ℕ → List (Option ℕ) → Place → Option Callee → Point
call_by target args place None = point.Nothing
call_by target args place (Some m) = call_of target args place m.called

-- what is done where a value is assigned to the name
abbrev pub assigns : Setting → Context → Option ℕ → Rhs → Point
assigns s c target (rhs.Copy w) = point.Copy target (argument_of s c w)
assigns s c target (rhs.New x) = point.Component target c.calls
assigns s c target (rhs.Component x) = point.Component target c.calls
assigns s c target (rhs.Call x) = call_by target (map (argument_of s c) x.args) x.procedure.place (callee_of s c.scope (rhs.Call x))

abbrev pub branch : Context → Test → Point
branch c (test.Free place) = point.Branch None
branch c (test.Call x) = point.Branch (Some c.calls)

-- the result takes the value
abbrev pub returned : Setting → Context → Option Word → Point
returned s c None = point.Nothing
returned s c (Some w) = point.Copy (code_by result_code s.result) (argument_of s c w)

-- what is done at the point of a statement
abbrev pub done_at : Setting → Context → Statement → Point
done_at s c (Declare place sort w None) = point.Nothing
done_at s c (Declare place sort w (Some v)) = assigns s c (code_by (variable_code c.variables) (kind_of s.form sort)) v
done_at s c (Assign w v) = assigns s c (code_of s c w) v
done_at s c (Do v) = assigns s c None v
done_at s c (If place t first second has_else) = branch c t
done_at s c (While place t inner) = branch c t
done_at s c (Break place) = point.Nothing
done_at s c (Continue place) = point.Nothing
done_at s c (Return r) = returned s c r.value

abbrev pub point_of : Situated → Point
point_of x = done_at x.setting x.context x.statement

-- the class of the variable that a statement declares
abbrev pub declared_by : Setting → Statement → Option (Option ℕ)
declared_by s (Declare place sort w v) = Some (class_in (kind_of s.form sort))
declared_by s x = None

abbrev pub declared_at : Situated → Option (Option ℕ)
declared_at x = declared_by x.setting x.statement

-- the value that a statement evaluates; that of a test is its call
abbrev pub value_in : Statement → Option Rhs
value_in (Declare place sort w v) = v
value_in (Assign w v) = Some v
value_in (Do v) = Some v
value_in (If place t first second has_else) = value_of_test t
value_in (While place t inner) = value_of_test t
value_in x = None

-- the names of a component call's arguments, before them the receiver where it is no construction
abbrev pub arguments_of : Setting → Context → Rhs → List (Option ℕ)
arguments_of s c (rhs.Copy w) = []
arguments_of s c (rhs.New x) = map (argument_of s c) x.args
arguments_of s c (rhs.Component x) = map (argument_of s c) (x.receiver ∷ x.args)
arguments_of s c (rhs.Call x) = map (argument_of s c) x.args

abbrev pub site_by : Situated → Rhs → Called → Option CallSite
site_by x v (Procedure number) = None
site_by x v (Method number) = Some (record {
  procedure = x.setting.procedure;
  point = x.context.points;
  method = number;
  args = arguments_of x.setting x.context v;
  place = place_of_value v;
})

-- the component call or construction of a statement
abbrev pub site_at : Situated → Option CallSite
site_at x = option_and_then (λ v. option_and_then (λ m. site_by x v m.called) (callee_of x.setting x.context.scope v)) (value_in x.statement)

-- the codes of the names that are set, each once: of the statics, and of the variables declared so far, those that are surely
-- assigned. A variable stays set behind its scope where the rule on assignments says so
abbrev pub names_set : Setting → Context → List ℕ
names_set s c = filter (has c.assigned) (codes_of s.statics ++ map variable_code (range_with_len 0 c.variables))

abbrev pub set_at : Situated → List ℕ
set_at x = names_set x.setting x.context

-- what is assigned at a `return`
abbrev pub left_by : Context → Statement → Option Assigned
left_by c (Return r) = Some c.assigned
left_by c x = None

abbrev pub at_return : Situated → Option Assigned
at_return x = left_by x.context x.statement

-- at the exit: what is assigned at each `return` and, where the body goes on at its end, there
abbrev pub assigned_at_exit : Body → Assigned
assigned_at_exit b = fold meet (behind_block b.statements (end_of b)) (filter_map at_return (all_in b))

abbrev pub set_at_exit : Body → List ℕ
set_at_exit b = names_set b.setting (record (end_of b) { assigned = assigned_at_exit b })
