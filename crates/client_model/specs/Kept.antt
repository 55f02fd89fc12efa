-- Names that are set behind a step were set before it, or the step sets them.
use Rattle.std.specs.Prelude.{◌≡◌, ◌⊎◌, ℕ, true, false, List, [], ◌∷◌, ◌++◌, Option, Some, None, flat_map, map, option_map, slice_index_or}
use Rattle.std.specs.List.{AllZip}
use Rattle.client_model.specs.Bodies.{Body, all_in}
use Rattle.client_model.specs.BodyFaults.{faults_at}
use Rattle.client_model.specs.Nodes.{count, shape_from}
use Rattle.client_model.specs.Ways.{next_of}
use Rattle.client_model.specs.Codes.{variable_code}
use Rattle.client_model.specs.Contexts.{Assigned, Context, Everything, Situated, These, after, after_all, counting, entered, evaluated, has, looping, value_of_test}
use Rattle.client_model.specs.Points.{assigned_at_exit}
use Rattle.client_model.specs.Settings.{Setting, variable_named}
use Rattle.client_model.specs.Statements.{Statement, Statements, Declare, Assign, Do, If, While, Break, Continue, Return, none, ◌▸◌}

-- the code of the variable that a statement sets
abbrev pub set_by : Setting → Context → Statement → Option ℕ
set_by s c (Declare place sort w (Some v)) = Some (variable_code c.variables)
set_by s c (Assign w v) = option_map (λ x. x.code) (variable_named s c.scope w.name)
set_by s c x = None

-- what is assigned where statements go on, and where a `break`, a `continue` and a `return` in them go
pub record Behind : Type 0 where
  pub on : Assigned
  pub broken : Assigned
  pub again : Assigned
  pub exit : Assigned

-- what is assigned at the first point of these statements, else at what follows them
abbrev pub first_assigned : Context → Statements → Assigned → Assigned
first_assigned c none on = on
first_assigned c (x ▸ xs) on = c.assigned

-- what is assigned there is assigned here
abbrev pub Within : Assigned → Assigned → Type 0
Within there here = (code : ℕ) → has there code ≡ true → has here code ≡ true

-- or it is this one
abbrev pub WithinBut : Option ℕ → Assigned → Assigned → Type 0
WithinBut target there here = (code : ℕ) → has there code ≡ true → (has here code ≡ true) ⊎ (target ≡ Some code)

-- in the block of a `while` that begins in this context
abbrev pub in_loop : Context → Behind → Behind
in_loop c w = record w { on = c.assigned; broken = w.on; again = c.assigned }

abbrev mutual
  -- along each step of a statement, and of those that it holds
  pub Keeps : Setting → Context → Statement → Behind → Type 0
  Keeps s c (Declare place sort w v) b = WithinBut (set_by s c (Declare place sort w v)) b.on c.assigned
  Keeps s c (Assign w v) b = WithinBut (set_by s c (Assign w v)) b.on c.assigned
  Keeps s c (Do v) b = Within b.on c.assigned
  Keeps s c (If place t first second has_else) b =
      let start = evaluated (value_of_test t) c
      in let other = entered (counting start (after_all s (entered start) first))
      in Within (first_assigned start first b.on) c.assigned
      × Within (first_assigned other second b.on) c.assigned
      × KeepAll s (entered start) first b
      × KeepAll s other second b
  Keeps s c (While place t inner) b =
      let start = looping (evaluated (value_of_test t) c)
      in Within (first_assigned start inner c.assigned) c.assigned × Within b.on c.assigned × KeepAll s start inner (in_loop c b)
  Keeps s c (Break place) b = Within b.broken c.assigned
  Keeps s c (Continue place) b = Within b.again c.assigned
  Keeps s c (Return r) b = Within b.exit c.assigned

  -- along each step of these statements
  pub KeepAll : Setting → Context → Statements → Behind → Type 0
  KeepAll s c none b = Unit {0}
  KeepAll s c (x ▸ xs) b = Keeps s c x (record b { on = first_assigned (after s c x) xs b.on }) × KeepAll s (after s c x) xs b

-- at the end of a body, which no `while` holds
abbrev pub behind_all : Assigned → Behind
behind_all exit = record { on = exit; broken = These []; again = These []; exit = exit }

-- a body's steps keep names up to its exit
abbrev pub BodiesKeepNames : Type 0
BodiesKeepNames = (b : Body) → KeepAll b.setting b.start b.statements (behind_all (assigned_at_exit b))

-- what is assigned at each point of a body, and at its exit
abbrev pub assigned_in : Body → List Assigned
assigned_in b = map (λ x. x.context.assigned) (all_in b) ++ assigned_at_exit b ∷ []

abbrev pub assigned_at : Body → ℕ → Assigned
assigned_at b point = slice_index_or (assigned_in b) point Everything

abbrev pub target_at : Situated → Option ℕ
target_at x = set_by x.setting x.context x.statement

-- what is assigned where a point goes on, on T and on F, is assigned at the point, or its statement sets it
abbrev pub StepKeeps : Body → Situated → ℕ × ℕ → Type 0
StepKeeps b x ways = WithinBut (target_at x) (assigned_at b ways.0) x.context.assigned × WithinBut (target_at x) (assigned_at b ways.1) x.context.assigned

-- the body of a procedure: it starts at point 0, and no `while` holds it
pub record IsWholeBody (b : Body) : Type 0 where
  pub start : b.start.points ≡ 0
  pub free : b.start.looped ≡ false

-- in a whole body that breaks no rule each step keeps names
abbrev pub StepsKeepNames : Type 0
StepsKeepNames =
    (b : Body) → IsWholeBody b → flat_map faults_at (all_in b) ≡ [] → AllZip (StepKeeps b) (all_in b) (next_of (count b.statements) (shape_from 0 b.statements))
