-- The stated limits on a tree: what begins beyond each, in text order.
use Rattle.std.specs.Prelude.{◌≡◌, ℕ, ◌==◌, ◌&&◌, ◌||◌, Bool, List, [], ◌∷◌, ◌++◌, Option, None, drop, map, nat_lt, option_to_list}
use Rattle.std.specs.List.{flat_map}
use Rattle.easl_model.specs.Clauses.{Clause, Clauses, clause_of, none, more}
use Rattle.easl_model.specs.Clauses as written
use Rattle.easl_model.specs.Faults.{first_with, stands_before}
use Rattle.easl_model.specs.Names.{codes_in, fields_in, methods_in}
use Rattle.easl_model.specs.Steps.{Block, Written, Declare, Assign, If, block_of, ◌▸◌}
use Rattle.easl_model.specs.Steps as steps
use Rattle.easl_model.specs.declared.fault.Excess.{Excess}
use Rattle.easl_model.specs.declared.fault.Which.{Which}
use Rattle.easl_model.specs.declared.fault.Which.TheVariants as which
use Rattle.easl_model.specs.declared.place.Place.{Place}
use Rattle.easl_model.specs.declared.tree.Arg.{Arg}
use Rattle.easl_model.specs.declared.tree.Arg.TheVariants as arg
use Rattle.easl_model.specs.declared.tree.Class.{Class}
use Rattle.easl_model.specs.declared.tree.Code.{Code}
use Rattle.easl_model.specs.declared.tree.Path.{Path}
use Rattle.easl_model.specs.declared.tree.Requires.{Requires}
use Rattle.easl_model.specs.declared.tree.Spec.{Spec}
use Rattle.easl_model.specs.declared.tree.Value.{Value}
use Rattle.easl_model.specs.declared.tree.Value.TheVariants as value

-- of items that begin at these places, those beyond the limit
abbrev pub beyond : ℕ → Which → List Place → List Excess
beyond limit which places = map (λ place. record { which = which; place = place }) (drop limit places)

-- the names of a path beyond the sixth
abbrev pub excess_of_path : Path → List Excess
excess_of_path path = beyond 6 which.Path (map (λ w. w.place) path.fields)

-- the comparisons of a condition, by their left sides
abbrev mutual
  pub comparisons_of : Clause → List Place
  comparisons_of (written.Same left right) = left.place ∷ []
  comparisons_of (written.Differ left right) = left.place ∷ []
  comparisons_of (written.All cs) = comparisons_in cs
  comparisons_of (written.Any cs) = comparisons_in cs

  pub comparisons_in : Clauses → List Place
  comparisons_in none = []
  comparisons_in (more c cs) = comparisons_of c ++ comparisons_in cs

-- the paths of a condition
abbrev mutual
  pub paths_of : Clause → List Path
  paths_of (written.Same left right) = left ∷ right ∷ []
  paths_of (written.Differ left right) = left ∷ right ∷ []
  paths_of (written.All cs) = paths_in cs
  paths_of (written.Any cs) = paths_in cs

  pub paths_in : Clauses → List Path
  paths_in none = []
  paths_in (more c cs) = paths_of c ++ paths_in cs

abbrev pub excess_of_condition : Clause → List Excess
excess_of_condition c = flat_map excess_of_path (paths_of c)

abbrev pub excess_of_clause : Requires → List Excess
excess_of_clause c = let condition = clause_of c.condition in beyond 16 which.Comparisons (comparisons_of condition) ++ excess_of_condition condition

abbrev pub excess_of_argument : Arg → List Excess
excess_of_argument (arg.Literal w) = []
excess_of_argument (arg.Path path) = excess_of_path path

abbrev pub excess_of_value : Value → List Excess
excess_of_value (value.Path path) = excess_of_path path
excess_of_value (value.New new) = flat_map excess_of_argument new.args

-- the first token of a statement
abbrev pub place_of : Written → Place
place_of (Declare class name v) = class.place
place_of (Assign path v) = path.place
place_of (If place test first second has_else) = place

-- the statements of a block, those of branches among them, by their first tokens
abbrev mutual
  pub statements_at : Written → List Place
  statements_at (Declare class name v) = class.place ∷ []
  statements_at (Assign path v) = path.place ∷ []
  statements_at (If place test first second has_else) = place ∷ statements_in first ++ statements_in second

  pub statements_in : Block → List Place
  statements_in steps.none = []
  statements_in (x ▸ xs) = statements_at x ++ statements_in xs

-- the conditionals of a block
abbrev mutual
  pub conditionals_at : Written → List Place
  conditionals_at (Declare class name v) = []
  conditionals_at (Assign path v) = []
  conditionals_at (If place test first second has_else) = place ∷ conditionals_in first ++ conditionals_in second

  pub conditionals_in : Block → List Place
  conditionals_in steps.none = []
  conditionals_in (x ▸ xs) = conditionals_at x ++ conditionals_in xs

-- what the paths of statements have beyond the limit
abbrev mutual
  pub excess_at : Written → List Excess
  excess_at (Declare class name v) = excess_of_value v
  excess_at (Assign path v) = excess_of_path path ++ excess_of_value v
  excess_at (If place test first second has_else) = excess_of_condition test ++ excess_in first ++ excess_in second

  pub excess_in : Block → List Excess
  excess_in steps.none = []
  excess_in (x ▸ xs) = excess_at x ++ excess_in xs

-- a `return` is a statement too
abbrev pub excess_of_code : Code → List Excess
excess_of_code code =
    let body = block_of code.body
    in let returns = option_to_list code.value
    in beyond 4 which.Parameters (map (λ p. p.place) code.params)
    ++ beyond 16 which.Clauses (map (λ c. c.place) code.clauses)
    ++ flat_map excess_of_clause code.clauses
    ++ beyond 64 which.Statements (statements_in body ++ map (λ r. r.place) returns)
    ++ beyond 8 which.Conditionals (conditionals_in body)
    ++ excess_in body
    ++ flat_map (λ r. excess_of_value r.value) returns

abbrev pub excess_of_class : Class → List Excess
excess_of_class c =
    beyond 16 which.Fields (map (λ f. f.class.place) (fields_in c.members))
    ++ beyond 64 which.Methods (map (λ code. code.place) (methods_in c.members))
    ++ flat_map excess_of_code (codes_in c.members)

abbrev pub excess_of : Spec → List Excess
excess_of spec = beyond 64 which.Classes (map (λ c. c.place) spec.classes) ++ flat_map excess_of_class spec.classes

-- the tree keeps the limits
abbrev pub IsWithinLimits : Spec → Type 0
IsWithinLimits spec = excess_of spec ≡ []

-- at one place, too many statements come before too many conditionals
abbrev pub number_of : Which → ℕ
number_of which.Conditionals = 1
number_of w = 0

abbrev pub comes_before : Excess → Excess → Bool
comes_before x y = stands_before x.place y.place || (((x.place.line == y.place.line) && (x.place.col == y.place.col)) && nat_lt (number_of x.which) (number_of y.which))

-- the first of what a tree has beyond the limits, in text order
abbrev pub first_excess : Spec → Option Excess
first_excess spec = first_with comes_before None (excess_of spec)
