-- Bodies on symbolic values.
use Rattle.std.specs.Prelude.{ℕ, zero, suc, List, [], ◌∷◌, ◌++◌, Option, Some, None, if◌then◌else◌, length, slice_set}
use Rattle.easl_model.specs.{Change, Local, Statement, Write, body_of, constructor_of, statements_of}
use Rattle.easl_model.specs.Form.{Form}
use Rattle.easl_model.specs.Statements.{Statements, If, none, ◌▸◌}
use Rattle.easl_model.specs.declared.form.Method.{Method}
use Rattle.easl_model.specs.declared.form.Reach as path
use Rattle.easl_model.specs.declared.form.Source.{Source}
use Rattle.easl_model.specs.declared.form.Source.TheVariants.{Reach, Make}
use Rattle.question_model.specs.Stage.{Stage, Done, ◌>>=◌}
use Rattle.question_model.specs.States.{State, ended, holds, reached, state}
use Rattle.question_model.specs.Values.{written}
use Rattle.question_model.specs.declared.answer.Answer.{Answer}
use Rattle.question_model.specs.declared.value.Value.TheVariants.{Fresh, Nothing}
use Rattle.question_model.specs.declared.value.Value.{Value}
use Rattle.question_model.specs.declared.value.Write as values

-- what evaluation leaves: the writes, how many objects were made, and what it gives
pub record Outcome : Type 0 where
  pub writes : List values.Write
  pub count : ℕ
  pub result : Value

abbrev pub outcome : List values.Write → ℕ → Value → Outcome
outcome writes count result = record { writes = writes; count = count; result = result }

-- how an object of a class is made with these arguments, after these writes, where so many were made
abbrev pub Making : Type 0
Making = ℕ → List Value → List values.Write → ℕ → Stage Outcome

module _ (form : Form) (most : Option ℕ) (answers : List Answer) where
  abbrev pub argument : State → Option path.Reach → Stage Value
  argument s None = Done Nothing
  argument s (Some path) = reached form most answers s path

  abbrev pub arguments : State → List (Option path.Reach) → Stage (List Value)
  arguments s [] = Done []
  arguments s (x ∷ xs) = argument s x >>= λ v. arguments s xs >>= λ vs. Done (v ∷ vs)

  abbrev pub value : Making → Source → State → Stage Outcome
  value make (Reach path) s = reached form most answers s path >>= λ v. Done (outcome s.writes s.count v)
  value make (Make class args) s = arguments s args >>= λ vs. make class vs s.writes s.count

  abbrev mutual
    -- the object whose field is written is found before the value; of an `if` one list is executed
    pub step : Making → Statement → State → Stage State
    step make (Local v) s = value make v s >>= λ x. Done (state (s.slots ++ x.result ∷ []) x.writes x.count)
    step make (Change slot v) s = value make v s >>= λ x. Done (state (slice_set s.slots slot x.result) x.writes x.count)
    step make (Write target position v) s =
        reached form most answers s target
        >>= λ owner. value make v s >>= λ x. Done (state s.slots (written form owner position x.result x.writes) x.count)
    step make (If c first second) s =
        holds form most answers s c
        >>= λ b. (if b then run make first s else run make second s) >>= λ t. Done (ended s t)

    pub run : Making → Statements → State → Stage State
    run make none s = Done s
    run make (x ▸ xs) s = step make x s >>= λ t. run make xs t

  -- a fresh object takes the next number, and then its class's constructor is executed in place on it
  abbrev pub made : ℕ → Making
  made zero class args writes count = Done (outcome writes (suc count) (Fresh class count))
  made (suc depth) class args writes count =
      run (made depth) (body_of form (constructor_of form class)) (state (Fresh class count ∷ args) writes (suc count))
      >>= λ s. Done (outcome s.writes s.count (Fresh class count))

  abbrev pub returned : Making → Option Source → State → Stage Outcome
  returned make None s = Done (outcome s.writes s.count Nothing)
  returned make (Some v) s = value make v s

  -- what a method leaves, called on these values
  abbrev pub called : Method → List Value → Stage Outcome
  called m args =
      let make = made (length form.classes)
      in if m.constructor
      then make m.class args [] 0
      else run make (statements_of m.body) (state args [] 0) >>= λ s. returned make m.value s
