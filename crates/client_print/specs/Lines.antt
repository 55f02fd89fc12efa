-- The canonical layout of a client: the lines that its tree is written on. The layout is this project's own.
use Rattle.std.specs.Prelude.{ℕ, ◌+◌, Bool, true, false, List, [], ◌∷◌, ◌++◌, Option, Some, None, drop, map, encode_utf8_all}
use Rattle.client_model.specs.Statements.{Statement, Statements, Declare, Assign, Do, If, While, Break, Continue, Return, none, statements, statement_of, ◌▸◌}
use Rattle.client_model.specs.declared.tree.Call.{Call}
use Rattle.client_model.specs.declared.tree.Client.{Client}
use Rattle.client_model.specs.declared.tree.Component.{Component}
use Rattle.client_model.specs.declared.tree.New.{New}
use Rattle.client_model.specs.declared.tree.Proc.{Proc}
use Rattle.client_model.specs.declared.tree.Return.{Return as Returned}
use Rattle.client_model.specs.declared.tree.Rhs.{Rhs}
use Rattle.client_model.specs.declared.tree.Rhs.TheVariants as rhs
use Rattle.client_model.specs.declared.tree.Static.{Static}
use Rattle.client_model.specs.declared.tree.Stmt.{Stmt}
use Rattle.client_model.specs.declared.tree.Test.{Test}
use Rattle.client_model.specs.declared.tree.Test.TheVariants as tests
use Rattle.easl_model.specs.declared.token.Key.{Key}
use Rattle.easl_model.specs.declared.token.Key.TheVariants as keyword
use Rattle.easl_model.specs.declared.token.Mark.TheVariants as sign
use Rattle.easl_model.specs.declared.tree.Word.{Word}
use Rattle.cv_layout.specs.Layout.{Lexeme, key, mark, Line, line, braced, separated, parens, layout}
use Rattle.cv_layout.specs.Words.{named}
use Rattle.easl_print.specs.Lines.{sort, params, ended, alternative}

-- a name or a literal as it was read
abbrev pub argument : Word → List Lexeme
argument w = named w ∷ []

-- arguments with commas between them, in parentheses
abbrev pub args : List Word → List Lexeme
args ws = parens (separated sign.Comma (map argument ws))

-- "new" a class and the arguments
abbrev pub construction : New → List Lexeme
construction x = key keyword.New ∷ named x.class ∷ args x.args

-- a receiver "." a method and the arguments
abbrev pub component : Component → List Lexeme
component x = named x.receiver ∷ mark sign.Dot ∷ named x.method ∷ args x.args

-- a procedure and the arguments
abbrev pub call : Call → List Lexeme
call x = named x.procedure ∷ args x.args

abbrev pub value : Rhs → List Lexeme
value (rhs.Copy w) = argument w
value (rhs.New x) = construction x
value (rhs.Component x) = component x
value (rhs.Call x) = call x

-- "=" a value ";"
abbrev pub set : Rhs → List Lexeme
set v = mark sign.Assign ∷ ended (value v)

-- what stands behind the name of a local
abbrev pub maybe_set : Option Rhs → List Lexeme
maybe_set None = mark sign.Semicolon ∷ []
maybe_set (Some v) = set v

-- "?" or a call
abbrev pub test : Test → List Lexeme
test (tests.Free place) = mark sign.Choice ∷ []
test (tests.Call x) = component x

-- "if" or "while", the test in parentheses, "{"
abbrev pub guard : Key → Test → List Lexeme
guard k t = key k ∷ parens (test t) ++ mark sign.Begin ∷ []

-- the value of a `return`
abbrev pub returned : Option Word → List Lexeme
returned None = []
returned (Some w) = argument w

-- "return", a value where one is written, ";"
abbrev pub returning : Returned → List Lexeme
returning r = ended (key keyword.Return ∷ returned r.value)

-- a statement on its line, or with its blocks two spaces deeper
abbrev mutual
  pub statement_lines : ℕ → Statement → List Line
  statement_lines d (Declare place s n v) = line d (sort s ∷ named n ∷ maybe_set v)
  statement_lines d (Assign n v) = line d (named n ∷ set v)
  statement_lines d (Do v) = line d (ended (value v))
  statement_lines d (If place t first second has_else) =
      line d (guard keyword.If t) ++ (block_lines (d + 1) first ++ alternative d has_else (block_lines (d + 1) second))
  statement_lines d (While place t inner) = line d (guard keyword.While t) ++ (block_lines (d + 1) inner ++ line d (mark sign.End ∷ []))
  statement_lines d (Break place) = line d (key keyword.Break ∷ mark sign.Semicolon ∷ [])
  statement_lines d (Continue place) = line d (key keyword.Continue ∷ mark sign.Semicolon ∷ [])
  statement_lines d (Return r) = line d (returning r)

  pub block_lines : ℕ → Statements → List Line
  block_lines d none = []
  block_lines d (x ▸ xs) = statement_lines d x ++ block_lines d xs

-- the statements of a body or a block, as a plain tree
abbrev pub block_of : List Stmt → Statements
block_of xs = statements (map statement_of xs)

-- "static" a type and a name, and the value
abbrev pub static_line : Static → List Line
static_line x = line 0 (key keyword.Static ∷ sort x.sort ∷ named x.name ∷ set x.value)

-- a procedure with its body
abbrev pub procedure_lines : Proc → List Line
procedure_lines p = braced 0 (sort p.result ∷ named p.name ∷ params p.params) (block_lines 1 (block_of p.body))

-- the first of these, if there is one
abbrev pub first_static : List Static → List Line
first_static [] = []
first_static (x ∷ xs) = static_line x

abbrev pub first_procedure : List Proc → List Line
first_procedure [] = []
first_procedure (x ∷ xs) = procedure_lines x

-- the items in text order: of each it is told whether it is a static
abbrev pub item_lines : List Bool → List Static → List Proc → List Line
item_lines [] xs ys = []
item_lines (true ∷ order) xs ys = first_static xs ++ item_lines order (drop 1 xs) ys
item_lines (false ∷ order) xs ys = first_procedure ys ++ item_lines order xs (drop 1 ys)

-- each item begins at the margin
abbrev pub client_lines : Client → List Line
client_lines client = item_lines client.order client.statics client.procedures

-- the bytes of the canonical layout
abbrev pub client_text : Client → List ℕ
client_text client = encode_utf8_all (layout (client_lines client))
