-- The stated limits on clauses and bodies.
use Rattle.std.specs.Prelude.{ℕ, zero, suc, ◌+◌, ◌≤◌, length, Option, Some, None, IfSome, slice_get, if◌then◌else◌}
use Rattle.std.specs.Option.{option_map_or}
use Rattle.easl_model.specs.Form.{Form, constructor_of}
use Rattle.easl_model.specs.Statements.{Statement, Statements, statements_of, Local, Change, Write, If, none, ◌▸◌}
use Rattle.easl_model.specs.declared.form.Method.{Method}
use Rattle.easl_model.specs.declared.form.Source.{Source}
use Rattle.easl_model.specs.declared.form.Source.TheVariants.{Reach, Make}

-- the statements of a method or a constructor
abbrev pub body_of : Form → ℕ → Statements
body_of form method = option_map_or (λ m. statements_of m.body) (slice_get form.methods method) none

-- how many statements are executed to make this value, where those of each class's constructor are known
abbrev pub count_of : (ℕ → ℕ) → Source → ℕ
count_of constructor (Reach r) = 0
count_of constructor (Make class args) = constructor class

abbrev mutual
  -- those of both branches are counted
  pub statement_count : (ℕ → ℕ) → Statement → ℕ
  statement_count constructor (Local v) = suc (count_of constructor v)
  statement_count constructor (Change slot v) = suc (count_of constructor v)
  statement_count constructor (Write target field v) = suc (count_of constructor v)
  statement_count constructor (If c first second) = suc (total_count constructor first + total_count constructor second)

  pub total_count : (ℕ → ℕ) → Statements → ℕ
  total_count constructor none = 0
  total_count constructor (x ▸ xs) = statement_count constructor x + total_count constructor xs

-- the statements of a class's constructor with those of the constructors that it calls, so deep
abbrev pub constructor_count : Form → ℕ → ℕ → ℕ
constructor_count form zero class = 0
constructor_count form (suc depth) class = total_count (constructor_count form depth) (body_of form (constructor_of form class))

abbrev pub value_count : (ℕ → ℕ) → Option Source → ℕ
value_count constructor None = 0
value_count constructor (Some v) = suc (count_of constructor v)

-- the statements of a method with those of each constructor that it calls, in place and as often as called.
-- Constructors stand in one another at most as deep as there are classes
abbrev pub count_in_place : Form → Method → ℕ
count_in_place form m =
    let constructor = constructor_count form (length form.classes)
    in if m.constructor then constructor m.class else total_count constructor (statements_of m.body) + value_count constructor m.value

abbrev pub HasFewArguments : Source → Type 0
HasFewArguments (Reach r) = Unit {0}
HasFewArguments (Make class args) = length args ≤ 4

abbrev mutual
  pub ActHasFewArguments : Statement → Type 0
  ActHasFewArguments (Local v) = HasFewArguments v
  ActHasFewArguments (Change slot v) = HasFewArguments v
  ActHasFewArguments (Write target field v) = HasFewArguments v
  ActHasFewArguments (If c first second) = ActsHaveFewArguments first × ActsHaveFewArguments second

  pub ActsHaveFewArguments : Statements → Type 0
  ActsHaveFewArguments none = Unit {0}
  ActsHaveFewArguments (x ▸ xs) = ActHasFewArguments x × ActsHaveFewArguments xs

abbrev mutual
  -- how many statements are written, those in branches counted
  pub written_by : Statement → ℕ
  written_by (Local v) = 1
  written_by (Change slot v) = 1
  written_by (Write target field v) = 1
  written_by (If c first second) = suc (written_in first + written_in second)

  pub written_in : Statements → ℕ
  written_in none = 0
  written_in (x ▸ xs) = written_by x + written_in xs

pub record MethodKeepsLimits (form : Form) (m : Method) : Type 0 where
  pub clauses : length m.clauses ≤ 16
  pub written : written_in (statements_of m.body) ≤ 64
  pub body : ActsHaveFewArguments (statements_of m.body)
  pub value : IfSome m.value HasFewArguments
  pub in_place : count_in_place form m ≤ 1024
