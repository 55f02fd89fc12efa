-- A block as a plain tree, and the faults on a walk over its statements.
use Rattle.std.specs.Prelude.{◌≡◌, ◌==◌, ◌&&◌, ◌||◌, ◌<◌, ◌≤◌, ◌⊎◌, ℕ, Bool, true, List, [], ◌∷◌, ◌++◌, Some, drop, length, map, not, take}
use Rattle.std.specs.List.{flat_map, list_any, range_with_len}
use Rattle.std.specs.Option.{option_map_or}
use Rattle.client_bodies.specs.declared.blocks.Outside.{Outside}
use Rattle.client_bodies.specs.declared.blocks.Own.{Own}
use Rattle.client_model.specs.Statements.{Statement, Statements, statement_of, statements}
use Rattle.client_model.specs.declared.tree.Rhs.{Rhs}
use Rattle.client_model.specs.declared.tree.Stmt.{Stmt}
use Rattle.client_model.specs.Bodies.{Body, all_in, codes_of}
use Rattle.client_model.specs.BodyFaults.{faults_at}
use Rattle.client_model.specs.Codes.{static_code, variable_code}
use Rattle.client_model.specs.Contexts.{Context, Situated, after_all, behind_block, counting, declared, ends_going_on, entered, evaluated, has, meet, situated, situated_in, with_code}
use Rattle.client_model.specs.Faults.{Fault}
use Rattle.client_model.specs.Points.{at_return, set_at, set_at_exit}
use Rattle.client_model.specs.SetNumbers.{AreAssigned, AreThese, variables_at, variables_set}
use Rattle.client_model.specs.Settings.{Setting, Variable}
use Rattle.client_values.specs.Knowing.{Knows}
use Rattle.client_values.specs.declared.context.Assigned.{Assigned}
use Rattle.client_values.specs.declared.context.Context.{Context as Known}
use Rattle.easl_model.specs.declared.tree.Sort.{Sort}
use Rattle.easl_model.specs.declared.tree.Word.{Word}
use Rattle.set_names.specs.Names.{Names, is_assigned, is_in, is_left}

abbrev pub block : List Stmt → Statements
block xs = statements (map statement_of xs)

-- of a statement, what it holds aside
abbrev pub faults_here : Setting → Context → Statement → List Fault
faults_here s c x = faults_at (record { setting = s; context = c; statement = x })

-- of what a statement holds
abbrev pub faults_inside : Setting → Context → Statement → List Fault
faults_inside s c x = flat_map faults_at (situated_in s c x)

abbrev pub faults_of_trees : Setting → Context → Statements → List Fault
faults_of_trees s c xs = flat_map faults_at (situated s c xs)

-- behind a declaration with its value
abbrev pub initialised : Setting → Sort → Word → Rhs → Context → Context
initialised s sort w v c = record (declared s sort w (evaluated (Some v) c)) { assigned = with_code (variable_code c.variables) c.assigned }

-- of both blocks of an `if`, whose test ends in this context
abbrev pub faults_of_branches : Setting → Context → Statements → Statements → List Fault
faults_of_branches s c first second = faults_of_trees s (entered c) first ++ faults_of_trees s (entered (counting c (after_all s (entered c) first))) second

-- behind it, where its blocks end in the others
abbrev pub joined : Context → Statements → Statements → Context → Context → Context
joined c first second one other = record (counting c other) {
  assigned = meet (behind_block first one) (behind_block second other);
  reached = c.reached && (ends_going_on first || ends_going_on second);
}

-- names are assigned behind those that were
pub record Grows (old new : Assigned) : Type 0 where
  pub trail : take (length old.names.trail) new.names.trail ≡ old.names.trail
  pub statics : new.names.statics ≡ old.names.statics
  pub variables : old.names.variables ≤ new.names.variables

-- the same names are assigned
pub record IsSame (old new : Assigned) : Type 0 where
  pub trail : new.names.trail ≡ old.names.trail
  pub statics : new.names.statics ≡ old.names.statics
  pub everything : new.everything ≡ old.everything
  pub variables : old.names.variables ≤ new.names.variables

-- whether the name of this code is one of those
abbrev pub is_among : Assigned → ℕ → Bool
is_among a code = is_assigned a.names code

-- or is that of one of these variables
abbrev pub is_one_of : List ℕ → ℕ → Bool
is_one_of numbers code = list_any (λ x. x == code) (map variable_code numbers)

abbrev pub is_own : Own → ℕ → Bool
is_own o code = o.everything || is_one_of o.numbers code

-- there are more variables than these say
abbrev pub AreWithin : ℕ → List ℕ → Type 0
AreWithin variables numbers = (k : ℕ) → is_in numbers k ≡ true → k < variables

-- what stands before a block that begins in this context
abbrev pub outside_of : Known → Outside
outside_of c = record {
  scope = length c.scope;
  trail = length c.assigned.names.trail;
  everything = c.assigned.everything;
  reached = c.reached;
  looped = c.looped;
}

-- behind a block that ends in this context, where this stood before it
abbrev pub put_back : Outside → Known → Known
put_back o c = record c {
  scope = take o.scope c.scope;
  assigned = record { names = record c.assigned.names { trail = take o.trail c.assigned.names.trail }; everything = o.everything };
  reached = o.reached;
  looped = o.looped;
}

-- what the block assigns; everything, where it does not go on
abbrev pub own_of : Outside → Known → Bool → Own
own_of o c goes_on = record { numbers = drop o.trail c.assigned.names.trail; everything = c.assigned.everything || not goes_on }

-- the code is that of a variable
abbrev pub IsVariable : ℕ → ℕ → Type 0
IsVariable variables code = (k : ℕ) × (code ≡ variable_code k) × (k < variables)

-- it is, or its name is assigned already
abbrev pub IsName : Context → ℕ → Type 0
IsName c code = (has c.assigned code ≡ true) ⊎ IsVariable c.variables code

abbrev pub AreVariables : ℕ → List Variable → Type 0
AreVariables variables [] = Unit {0}
AreVariables variables (v ∷ rest) = IsVariable variables v.code × AreVariables variables rest

-- the names in scope have the codes of variables, and all statics are assigned
pub record IsCoded (s : Setting) (c : Context) : Type 0 where
  pub scope : AreVariables c.variables c.scope
  pub statics : AreAssigned s.statics c.assigned

-- on a walk over the statements of a procedure the code knows this context
pub record Walks (s : Setting) (c : Context) (known : Known) : Type 0 where
  pub knows : Knows c known
  pub coded : IsCoded s c

-- a statement, and what it holds
abbrev pub with_inside : Setting → Context → Statement → List Situated
with_inside s c x = record { setting = s; context = c; statement = x } ∷ situated_in s c x

-- whether the variable is assigned at each `return` of these
abbrev pub all_left : List Situated → ℕ → Bool
all_left [] k = true
all_left (x ∷ rest) k = option_map_or (λ a. has a (variable_code k)) (at_return x) true && all_left rest k

-- these statements were passed: it is kept which variables are set at their points, and at each `return`
pub record Passed (xs : List Situated) (old new : Names) : Type 0 where
  pub before : new.before ≡ old.before ++ map variables_at xs
  pub left : (k : ℕ) → is_left new.left k ≡ (is_left old.left k && all_left xs k)

-- nothing more is known of points
pub record Keeps (old new : Assigned) : Type 0 where
  pub grows : Grows old new
  pub left : new.names.left ≡ old.names.left
  pub before : new.names.before ≡ old.names.before

-- it is kept which variables were set at a point that began in the first context
pub record Notes (old new : Known) : Type 0 where
  pub grows : Grows old.assigned new.assigned
  pub left : new.assigned.names.left ≡ old.assigned.names.left
  pub before : (c : Context) → Knows c old → AreThese c.assigned → new.assigned.names.before ≡ old.assigned.names.before ++ variables_set c ∷ []

-- where the body breaks no rule, these are the names that are set at its points and at its exit
abbrev pub AreSets : Body → List (List ℕ) → Type 0
AreSets b sets = flat_map faults_at (all_in b) ≡ [] → sets ≡ map set_at (all_in b) ++ set_at_exit b ∷ []
