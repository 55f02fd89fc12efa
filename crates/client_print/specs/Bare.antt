-- Clients with their places aside: what two trees that differ in places alone have in common.
use Rattle.std.specs.Prelude.{Bool, List, map}
use Rattle.std.specs.Option.{option_map}
use Rattle.client_model.specs.Statements.{Statement, Statements, Declare, Assign, Do, If, While, Break, Continue, Return, none, ◌▸◌}
use Rattle.client_model.specs.declared.tree.Call.{Call}
use Rattle.client_model.specs.declared.tree.Client as tree
use Rattle.client_model.specs.declared.tree.Component.{Component}
use Rattle.client_model.specs.declared.tree.New.{New}
use Rattle.client_model.specs.declared.tree.Proc.{Proc}
use Rattle.client_model.specs.declared.tree.Return.{Return as Returned}
use Rattle.client_model.specs.declared.tree.Rhs.{Rhs}
use Rattle.client_model.specs.declared.tree.Rhs.TheVariants as rhs
use Rattle.client_model.specs.declared.tree.Static.{Static}
use Rattle.client_model.specs.declared.tree.Stmt.{Stmt}
use Rattle.client_model.specs.declared.tree.Test.{Test}
use Rattle.client_model.specs.declared.tree.Test.TheVariants as test
use Rattle.easl_model.specs.declared.tree.Param.{Param}
use Rattle.easl_model.specs.declared.tree.Sort.{Sort}
use Rattle.easl_model.specs.declared.tree.Word.{Word}
use Rattle.cv_layout.specs.Words.{nowhere, bare_word}
use Rattle.client_print.specs.Lines.{block_of}
use Rattle.easl_print.specs.Bare.{bare_sort, bare_param}

-- calls and values, with `nowhere` in place of each place
abbrev pub bare_new : New → New
bare_new x = record { place = nowhere; class = bare_word x.class; args = map bare_word x.args }

abbrev pub bare_component : Component → Component
bare_component x = record { receiver = bare_word x.receiver; method = bare_word x.method; args = map bare_word x.args }

abbrev pub bare_call : Call → Call
bare_call x = record { procedure = bare_word x.procedure; args = map bare_word x.args }

abbrev pub bare_value : Rhs → Rhs
bare_value (rhs.Copy w) = rhs.Copy (bare_word w)
bare_value (rhs.New x) = rhs.New (bare_new x)
bare_value (rhs.Component x) = rhs.Component (bare_component x)
bare_value (rhs.Call x) = rhs.Call (bare_call x)

abbrev pub bare_test : Test → Test
bare_test (test.Free place) = test.Free nowhere
bare_test (test.Call x) = test.Call (bare_component x)

abbrev pub bare_return : Returned → Returned
bare_return r = record { place = nowhere; value = option_map bare_word r.value }

-- statements
abbrev mutual
  pub bare : Statement → Statement
  bare (Declare place s n v) = Declare nowhere (bare_sort s) (bare_word n) (option_map bare_value v)
  bare (Assign n v) = Assign (bare_word n) (bare_value v)
  bare (Do v) = Do (bare_value v)
  bare (If place t first second has_else) = If nowhere (bare_test t) (bare_all first) (bare_all second) has_else
  bare (While place t inner) = While nowhere (bare_test t) (bare_all inner)
  bare (Break place) = Break nowhere
  bare (Continue place) = Continue nowhere
  bare (Return r) = Return (bare_return r)

  pub bare_all : Statements → Statements
  bare_all none = none
  bare_all (x ▸ xs) = bare x ▸ bare_all xs

abbrev pub bare_block : List Stmt → Statements
bare_block xs = bare_all (block_of xs)

abbrev pub bare_static : Static → Static
bare_static x = record { place = nowhere; sort = bare_sort x.sort; name = bare_word x.name; value = bare_value x.value }

-- a procedure
pub record Procedure : Type 0 where
  pub result : Sort
  pub name : Word
  pub params : List Param
  pub body : Statements

-- a client
pub record Client : Type 0 where
  pub statics : List Static
  pub procedures : List Procedure
  pub order : List Bool

-- procedures and clients with their places aside
abbrev pub bare_procedure : Proc → Procedure
bare_procedure p = record {
  result = bare_sort p.result;
  name = bare_word p.name;
  params = map bare_param p.params;
  body = bare_block p.body;
}

abbrev pub bare_client : tree.Client → Client
bare_client c = record { statics = map bare_static c.statics; procedures = map bare_procedure c.procedures; order = c.order }
