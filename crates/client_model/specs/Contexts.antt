-- What stands before a statement, and the statements of a body in text order, each with what stands before it.
use Rattle.std.specs.Prelude.{ℕ, suc, ◌+◌, ◌==◌, Bool, true, false, ◌&&◌, ◌||◌, List, [], ◌∷◌, ◌++◌, Option, Some, None, filter, if◌then◌else◌}
use Rattle.std.specs.List.{list_any}
use Rattle.std.specs.Option.{option_map_or}
use Rattle.client_model.specs.declared.tree.Rhs.{Rhs}
use Rattle.client_model.specs.declared.tree.Rhs.TheVariants as rhs
use Rattle.client_model.specs.declared.tree.Test.{Test}
use Rattle.client_model.specs.declared.tree.Test.TheVariants as test
use Rattle.client_model.specs.Codes.{variable_code}
use Rattle.client_model.specs.Settings.{Setting, Variable, kind_of, variable_named}
use Rattle.client_model.specs.Statements.{Statement, Statements, Declare, Assign, Do, If, While, Break, Continue, Return, none, ◌▸◌}
use Rattle.easl_model.specs.declared.tree.Sort.{Sort}
use Rattle.easl_model.specs.declared.tree.Word.{Word}

-- what is surely assigned: the names of these codes; or everything, where nothing goes on to
pub data Assigned : Type 0 where
  These : List ℕ → Assigned
  Everything : Assigned

abbrev pub has : Assigned → ℕ → Bool
has (These codes) code = list_any (λ x. x == code) codes
has Everything code = true

abbrev pub with_code : ℕ → Assigned → Assigned
with_code code (These codes) = These (code ∷ codes)
with_code code Everything = Everything

-- what is assigned on both ways
abbrev pub meet : Assigned → Assigned → Assigned
meet (These xs) (These ys) = These (filter (has (These ys)) xs)
meet (These xs) Everything = These xs
meet Everything other = other

-- before a statement: the parameters and locals in scope, in order; the codes of what is surely assigned; whether all
-- before it in its block goes on; whether a `while` holds it; and how many variables and points of its procedure and how many
-- calls of the client stand before it in the text
pub record Context : Type 0 where
  pub scope : List Variable
  pub assigned : Assigned
  pub reached : Bool
  pub looped : Bool
  pub variables : ℕ
  pub points : ℕ
  pub calls : ℕ

abbrev mutual
  -- a missing `else` is an empty block, which goes on
  pub goes_on : Statement → Bool
  goes_on (Break place) = false
  goes_on (Continue place) = false
  goes_on (Return r) = false
  goes_on (If place t first second has_else) = block_goes_on true first || block_goes_on true second
  goes_on x = true

  -- a block goes on if its last statement does; where it is empty, if what stands before does
  pub block_goes_on : Bool → Statements → Bool
  block_goes_on before none = before
  block_goes_on before (x ▸ xs) = block_goes_on (goes_on x) xs

abbrev pub ends_going_on : Statements → Bool
ends_going_on block = block_goes_on true block

-- how many component calls and constructions a value makes
abbrev pub call_count : Rhs → ℕ
call_count (rhs.Copy w) = 0
call_count (rhs.New x) = 1
call_count (rhs.Component x) = 1
call_count (rhs.Call x) = 0

abbrev pub value_of_test : Test → Option Rhs
value_of_test (test.Free place) = None
value_of_test (test.Call x) = Some (rhs.Component x)

-- behind the point of a statement that evaluates this
abbrev pub evaluated : Option Rhs → Context → Context
evaluated v c = record c { points = suc c.points; calls = c.calls + option_map_or call_count v 0 }

-- a variable is declared
abbrev pub declared : Setting → Sort → Word → Context → Context
declared s sort w c = record c {
  scope = c.scope ++ record { name = w.name; kind = kind_of s.form sort; code = variable_code c.variables } ∷ [];
  variables = suc c.variables;
}

-- the name is assigned
abbrev pub assigned : Setting → Word → Context → Context
assigned s w c = record c { assigned = option_map_or (λ v. with_code v.code c.assigned) (variable_named s c.scope w.name) c.assigned }

-- nothing behind it in its block is reached
abbrev pub stopped : Context → Context
stopped c = record c { reached = false }

-- before the first statement of a block
abbrev pub entered : Context → Context
entered c = record c { reached = true }

-- the same of a block that is repeated
abbrev pub looping : Context → Context
looping c = record c { reached = true; looped = true }

-- behind a block that began in this context: its variables are no longer in scope, and what it assigns need not be assigned;
-- only what stands in it is counted
abbrev pub counting : Context → Context → Context
counting c inner = record c { variables = inner.variables; points = inner.points; calls = inner.calls }

-- what is assigned behind a block that ends in this context
abbrev pub behind_block : Statements → Context → Assigned
behind_block block end = if ends_going_on block then end.assigned else Everything

abbrev mutual
  -- behind a statement. Behind an `if` that is assigned which both blocks assign, a block that does not go on aside; behind
  -- a `while` what was before it
  pub after : Setting → Context → Statement → Context
  after s c (Declare place sort w None) = declared s sort w (evaluated None c)
  after s c (Declare place sort w (Some v)) = record (declared s sort w (evaluated (Some v) c)) { assigned = with_code (variable_code c.variables) c.assigned }
  after s c (Assign w v) = assigned s w (evaluated (Some v) c)
  after s c (Do v) = evaluated (Some v) c
  after s c (If place t first second has_else) =
      let start = evaluated (value_of_test t) c
      in let one = after_all s (entered start) first
      in let other = after_all s (entered (counting start one)) second
      in record (counting c other) {
        assigned = meet (behind_block first one) (behind_block second other);
        reached = c.reached && (ends_going_on first || ends_going_on second);
      }
  after s c (While place t inner) = counting c (after_all s (looping (evaluated (value_of_test t) c)) inner)
  after s c (Break place) = stopped (evaluated None c)
  after s c (Continue place) = stopped (evaluated None c)
  after s c (Return r) = stopped (evaluated None c)

  pub after_all : Setting → Context → Statements → Context
  after_all s c none = c
  after_all s c (x ▸ xs) = after_all s (after s c x) xs

-- a statement with what stands around and before it
pub record Situated : Type 0 where
  pub setting : Setting
  pub context : Context
  pub statement : Statement

abbrev mutual
  -- the statements in text order, an `if` or `while` before what it holds
  pub situated : Setting → Context → Statements → List Situated
  situated s c none = []
  situated s c (x ▸ xs) = record { setting = s; context = c; statement = x } ∷ situated_in s c x ++ situated s (after s c x) xs

  -- those that stand in a statement
  pub situated_in : Setting → Context → Statement → List Situated
  situated_in s c (If place t first second has_else) =
      let start = evaluated (value_of_test t) c
      in situated s (entered start) first ++ situated s (entered (counting start (after_all s (entered start) first))) second
  situated_in s c (While place t inner) = situated s (looping (evaluated (value_of_test t) c)) inner
  situated_in s c x = []
