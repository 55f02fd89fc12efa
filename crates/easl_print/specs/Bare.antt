-- Trees with their places aside: what two trees that differ in places alone have in common.
use Rattle.std.specs.Prelude.{List, Option, map}
use Rattle.std.specs.Option.{option_map}
use Rattle.easl_model.specs.{Assign, Block, Clause, Declare, Written, block_of, clause_of, more}
use Rattle.easl_model.specs.Clauses.{Clauses, Same, Differ, All, Any, none}
use Rattle.easl_model.specs.Steps.{If, ◌▸◌}
use Rattle.easl_model.specs.Steps as steps
use Rattle.easl_model.specs.declared.tree.Arg.{Arg}
use Rattle.easl_model.specs.declared.tree.Arg.TheVariants as arg
use Rattle.easl_model.specs.declared.tree.Class as tree
use Rattle.easl_model.specs.declared.tree.Code as tree_code
use Rattle.easl_model.specs.declared.tree.Member as tree_member
use Rattle.easl_model.specs.declared.tree.Member.TheVariants as member
use Rattle.easl_model.specs.declared.tree.Param.{Param}
use Rattle.easl_model.specs.declared.tree.Path.{Path}
use Rattle.easl_model.specs.declared.tree.Requires.{Requires}
use Rattle.easl_model.specs.declared.tree.Return.{Return}
use Rattle.easl_model.specs.declared.tree.Sort.{Sort}
use Rattle.easl_model.specs.declared.tree.Sort.TheVariants as sort
use Rattle.easl_model.specs.declared.tree.Spec.{Spec}
use Rattle.easl_model.specs.declared.tree.Step.{Step}
use Rattle.easl_model.specs.declared.tree.Value.{Value}
use Rattle.easl_model.specs.declared.tree.Value.TheVariants as value
use Rattle.easl_model.specs.declared.tree.Word.{Word}
use Rattle.cv_layout.specs.{bare_word, nowhere}

-- paths, conditions, values and steps, with `nowhere` in place of each place
abbrev pub bare_path : Path → Path
bare_path p = record { head = option_map bare_word p.head; place = nowhere; fields = map bare_word p.fields }

abbrev mutual
  pub bare : Clause → Clause
  bare (Same p q) = Same (bare_path p) (bare_path q)
  bare (Differ p q) = Differ (bare_path p) (bare_path q)
  bare (All cs) = All (bare_all cs)
  bare (Any cs) = Any (bare_all cs)

  pub bare_all : Clauses → Clauses
  bare_all none = none
  bare_all (more c cs) = more (bare c) (bare_all cs)

abbrev pub bare_arg : Arg → Arg
bare_arg (arg.Path p) = arg.Path (bare_path p)
bare_arg (arg.Literal w) = arg.Literal (bare_word w)

abbrev pub bare_value : Value → Value
bare_value (value.Path p) = value.Path (bare_path p)
bare_value (value.New n) = value.New (record { place = nowhere; class = bare_word n.class; args = map bare_arg n.args })

abbrev mutual
  pub bare_step : Written → Written
  bare_step (Declare class name v) = Declare (bare_word class) (bare_word name) (bare_value v)
  bare_step (Assign target v) = Assign (bare_path target) (bare_value v)
  bare_step (If place test first second has_else) = If nowhere (bare test) (bare_block first) (bare_block second) has_else

  pub bare_block : Block → Block
  bare_block steps.none = steps.none
  bare_block (x ▸ xs) = bare_step x ▸ bare_block xs

abbrev pub bare_steps : List Step → Block
bare_steps xs = bare_block (block_of xs)

abbrev pub bare_clause : Requires → Clause
bare_clause c = bare (clause_of c.condition)

abbrev pub bare_return : Return → Value
bare_return r = bare_value r.value

-- types and parameters
abbrev pub bare_sort : Sort → Sort
bare_sort sort.Void = sort.Void
bare_sort (sort.Opaque o) = sort.Opaque o
bare_sort (sort.Class w) = sort.Class (bare_word w)

abbrev pub bare_param : Param → Param
bare_param p = record { place = nowhere; sort = bare_sort p.sort; name = bare_word p.name }

-- a constructor or a method
pub record Code : Type 0 where
  pub result : Sort
  pub name : Word
  pub params : List Param
  pub clauses : List Clause
  pub body : Block
  pub value : Option Value

-- a member: a field by its class and name, a constructor, or a method
pub data Member : Type 0 where
  Field : Word → Word → Member
  Constructor : Code → Member
  Method : Code → Member

-- a class
pub record Class : Type 0 where
  pub name : Word
  pub members : List Member

-- members and classes with their places aside
abbrev pub bare_code : tree_code.Code → Code
bare_code c = record {
  result = bare_sort c.result;
  name = bare_word c.name;
  params = map bare_param c.params;
  clauses = map bare_clause c.clauses;
  body = bare_steps c.body;
  value = option_map bare_return c.value;
}

abbrev pub bare_member : tree_member.Member → Member
bare_member (member.Field f) = Field (bare_word f.class) (bare_word f.name)
bare_member (member.Constructor c) = Constructor (bare_code c)
bare_member (member.Method c) = Method (bare_code c)

abbrev pub bare_class : tree.Class → Class
bare_class c = record { name = bare_word c.name; members = map bare_member c.members }

-- a specification with its places aside
abbrev pub bare_spec : Spec → List Class
bare_spec s = map bare_class s.classes
