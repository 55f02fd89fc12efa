-- The canonical layout of a specification: the lines that its tree is written on. The layout is this project's own.
use Rattle.std.specs.Prelude.{ℕ, ◌+◌, Bool, true, false, ◌||◌, List, [], ◌∷◌, ◌++◌, Option, Some, None, flat_map, map, encode_utf8_all}
use Rattle.easl_model.specs.{Assign, Block, Clause, Declare, Written, block_of, clause_of, more, opaque_key}
use Rattle.easl_model.specs.Clauses.{Clauses, none}
use Rattle.easl_model.specs.Clauses as written
use Rattle.easl_model.specs.Steps.{If, ◌▸◌}
use Rattle.easl_model.specs.Steps as steps
use Rattle.easl_model.specs.declared.token.Key.TheVariants as keyword
use Rattle.easl_model.specs.declared.token.Mark.TheVariants as sign
use Rattle.easl_model.specs.declared.tree.Arg.{Arg}
use Rattle.easl_model.specs.declared.tree.Arg.TheVariants as args
use Rattle.easl_model.specs.declared.tree.Class.{Class}
use Rattle.easl_model.specs.declared.tree.Code.{Code}
use Rattle.easl_model.specs.declared.tree.Member.{Member}
use Rattle.easl_model.specs.declared.tree.Member.TheVariants as members
use Rattle.easl_model.specs.declared.tree.New.{New}
use Rattle.easl_model.specs.declared.tree.Param.{Param}
use Rattle.easl_model.specs.declared.tree.Path.{Path}
use Rattle.easl_model.specs.declared.tree.Requires.{Requires}
use Rattle.easl_model.specs.declared.tree.Return.{Return}
use Rattle.easl_model.specs.declared.tree.Sort.{Sort}
use Rattle.easl_model.specs.declared.tree.Sort.TheVariants as sorts
use Rattle.easl_model.specs.declared.tree.Spec.{Spec}
use Rattle.easl_model.specs.declared.tree.Value.{Value}
use Rattle.easl_model.specs.declared.tree.Value.TheVariants as values
use Rattle.easl_model.specs.declared.tree.Word.{Word}
use Rattle.cv_layout.specs.{Lexeme, Line, braced, key, layout, line, mark, named, parens, separated}

-- "this" or a name
abbrev pub head : Option Word → Lexeme
head None = key keyword.This
head (Some w) = named w

-- "." and a name
abbrev pub fields : List Word → List Lexeme
fields [] = []
fields (w ∷ ws) = mark sign.Dot ∷ named w ∷ fields ws

-- a head and its fields
abbrev pub path : Path → List Lexeme
path p = head p.head ∷ fields p.fields

-- whether the condition is an `any`
abbrev pub is_any : Clause → Bool
is_any (written.Any cs) = true
is_any c = false

-- whether the condition is an `all`
abbrev pub is_all : Clause → Bool
is_all (written.All cs) = true
is_all c = false

-- these in parentheses, where so
abbrev pub parens_where : Bool → List Lexeme → List Lexeme
parens_where true xs = parens xs
parens_where false xs = xs

-- parentheses stand round an `any` inside an `all` or `any`, and round an `all` inside an `all`, and nowhere else
abbrev mutual
  pub condition : Clause → List Lexeme
  condition (written.Same p q) = path p ++ mark sign.Same ∷ path q
  condition (written.Differ p q) = path p ++ mark sign.Differ ∷ path q
  condition (written.All cs) = separated sign.And (in_all cs)
  condition (written.Any cs) = separated sign.Or (in_any cs)

  pub in_all : Clauses → List (List Lexeme)
  in_all none = []
  in_all (more c cs) = parens_where (is_any c || is_all c) (condition c) ∷ in_all cs

  pub in_any : Clauses → List (List Lexeme)
  in_any none = []
  in_any (more c cs) = parens_where (is_any c) (condition c) ∷ in_any cs

-- a path or a literal as it was read
abbrev pub argument : Arg → List Lexeme
argument (args.Path p) = path p
argument (args.Literal w) = named w ∷ []

-- arguments with commas between them
abbrev pub arguments : List Arg → List Lexeme
arguments xs = separated sign.Comma (map argument xs)

-- "new" a class and the arguments in parentheses
abbrev pub construction : New → List Lexeme
construction n = key keyword.New ∷ named n.class ∷ parens (arguments n.args)

-- a path or a construction
abbrev pub value : Value → List Lexeme
value (values.Path p) = path p
value (values.New n) = construction n

-- "void", an opaque type or a class
abbrev pub sort : Sort → Lexeme
sort sorts.Void = key keyword.Void
sort (sorts.Opaque o) = key (opaque_key o)
sort (sorts.Class w) = named w

-- a type and a name
abbrev pub param : Param → List Lexeme
param p = sort p.sort ∷ named p.name ∷ []

-- parameters with commas between them, in parentheses
abbrev pub params : List Param → List Lexeme
params ps = parens (separated sign.Comma (map param ps))

-- these and then ";"
abbrev pub ended : List Lexeme → List Lexeme
ended xs = xs ++ mark sign.Semicolon ∷ []

-- "requires" a condition ";"
abbrev pub clause_line : ℕ → Requires → List Line
clause_line d c = line d (ended (key keyword.Requires ∷ condition (clause_of c.condition)))

-- "=" a value ";"
abbrev pub set : Value → List Lexeme
set v = mark sign.Assign ∷ ended (value v)

-- "if" the comparison in parentheses "{"
abbrev pub guard : Clause → List Lexeme
guard test = key keyword.If ∷ parens (condition test) ++ mark sign.Begin ∷ []

-- what closes the first block, where an alternative is written and where none is
abbrev pub alternative : ℕ → Bool → List Line → List Line
alternative d true other = line d (mark sign.End ∷ key keyword.Else ∷ mark sign.Begin ∷ []) ++ (other ++ line d (mark sign.End ∷ []))
alternative d false other = line d (mark sign.End ∷ [])

-- a step on its line, or a conditional with its blocks two spaces deeper
abbrev mutual
  pub step_lines : ℕ → Written → List Line
  step_lines d (Declare class name v) = line d (named class ∷ named name ∷ set v)
  step_lines d (Assign target v) = line d (path target ++ set v)
  step_lines d (If place test first second has_else) = line d (guard test) ++ (block_lines (d + 1) first ++ alternative d has_else (block_lines (d + 1) second))

  pub block_lines : ℕ → Block → List Line
  block_lines d steps.none = []
  block_lines d (x ▸ xs) = step_lines d x ++ block_lines d xs

-- "return" a value ";"
abbrev pub return_line : ℕ → Option Return → List Line
return_line d None = []
return_line d (Some r) = line d (ended (key keyword.Return ∷ value r.value))

-- clauses, then steps, then the `return`
abbrev pub body_lines : ℕ → Code → List Line
body_lines d code = flat_map (clause_line d) code.clauses ++ (block_lines d (block_of code.body) ++ return_line d code.value)

-- a field on its line; a constructor or a method with its body
abbrev pub member_lines : ℕ → Member → List Line
member_lines d (members.Field f) = line d (ended (named f.class ∷ named f.name ∷ []))
member_lines d (members.Constructor code) = braced d (named code.name ∷ params code.params) (body_lines (d + 1) code)
member_lines d (members.Method code) = braced d (sort code.result ∷ named code.name ∷ params code.params) (body_lines (d + 1) code)

-- "class" a name, and the members in braces
abbrev pub class_lines : ℕ → Class → List Line
class_lines d c = braced d (key keyword.Class ∷ named c.name ∷ []) (flat_map (member_lines (d + 1)) c.members)

-- each class begins at the margin
abbrev pub spec_lines : Spec → List Line
spec_lines spec = flat_map (class_lines 0) spec.classes

-- the bytes of the canonical layout
abbrev pub spec_text : Spec → List ℕ
spec_text spec = encode_utf8_all (layout (spec_lines spec))
