-- Bodies of methods.
use Rattle.std.specs.Prelude.{◌≡◌, ℕ, zero, suc, ◌+◌, List, [], ◌∷◌, ◌++◌, map, length, Option, Some, None, IfSome, slice_get, slice_set, take, if◌then◌else◌}
use Rattle.std.specs.Option.{option_map_or}
use Rattle.easl_model.specs.{Change, Local, Statement, Write, body_of, constructor_of, statements_of}
use Rattle.easl_model.specs.Form.{Form}
use Rattle.easl_model.specs.Statements.{Statements, If, none, ◌▸◌}
use Rattle.easl_model.specs.declared.form.Method.{Method}
use Rattle.easl_model.specs.declared.form.Reach as path
use Rattle.easl_model.specs.declared.form.Source.{Source}
use Rattle.easl_model.specs.declared.form.Source.TheVariants.{Reach, Make}
use Rattle.easl_heap.specs.Clause.{holds}
use Rattle.easl_heap.specs.Heap.{Object, reached, write, fresh}

-- how many arguments a method takes: its receiver, where it is no constructor, and one for each parameter
abbrev pub argument_count : Method → ℕ
argument_count m = if m.constructor then length m.params else suc (length m.params)

abbrev pub HasArguments : Form → ℕ → List ℕ → Type 0
HasArguments form method args = IfSome (slice_get form.methods method) (λ m. length args ≡ argument_count m)

-- a body under way: the heap, its slots, and how many statements were executed so far
pub record Moment : Type 0 where
  pub heap : List Object
  pub slots : List ℕ
  pub steps : ℕ

-- what evaluation leaves: the heap, the object that it gives or 0, and how many statements were executed so far
pub record Outcome : Type 0 where
  pub heap : List Object
  pub result : ℕ
  pub steps : ℕ

abbrev pub moment : List Object → List ℕ → ℕ → Moment
moment heap slots steps = record { heap = heap; slots = slots; steps = steps }

abbrev pub outcome : List Object → ℕ → ℕ → Outcome
outcome heap result steps = record { heap = heap; result = result; steps = steps }

-- how an object of a class is made with these arguments, on this heap, after so many statements
abbrev pub Making : Type 0
Making = ℕ → List ℕ → List Object → ℕ → Outcome

-- an argument's object; an opaque one has none
abbrev pub argument : List Object → List ℕ → Option path.Reach → ℕ
argument heap slots arg = option_map_or (reached heap slots) arg 0

abbrev pub value : Making → Source → Moment → Outcome
value make (Reach path) m = outcome m.heap (reached m.heap m.slots path) m.steps
value make (Make class args) m = make class (map (argument m.heap m.slots) args) m.heap m.steps

abbrev pub counted : Moment → Moment
counted m = record m { steps = m.steps + 1 }

-- the locals of a list end with it
abbrev pub ended : Moment → Moment → Moment
ended before after = record after { slots = take (length before.slots) after.slots }

abbrev mutual
  -- a local takes the next slot; the object whose field is written is found before the value; a condition is read on the
  -- present heap
  pub step : Making → Statement → Moment → Moment
  step make (Local v) m = let x = value make v m in moment x.heap (m.slots ++ x.result ∷ []) x.steps
  step make (Change slot v) m = let x = value make v m in moment x.heap (slice_set m.slots slot x.result) x.steps
  step make (Write target field v) m =
      let owner = reached m.heap m.slots target
      in let x = value make v m
      in moment (write x.heap owner field x.result) m.slots x.steps
  step make (If c first second) m = ended m (if holds m.heap m.slots c then run make first m else run make second m)

  pub run : Making → Statements → Moment → Moment
  run make none m = m
  run make (x ▸ xs) m = run make xs (step make x (counted m))

-- a fresh object takes the next number, and then its class's constructor is executed in place on it.
-- So deep may constructors stand in one another
abbrev pub made : Form → ℕ → Making
made form zero class args heap steps = outcome (heap ++ fresh form class ∷ []) (length heap + 1) steps
made form (suc depth) class args heap steps =
    let this = length heap + 1
    in let start = moment (heap ++ fresh form class ∷ []) (this ∷ args) steps
    in let m = run (made form depth) (body_of form (constructor_of form class)) start
    in outcome m.heap this m.steps

-- the `return`, where there is one
abbrev pub returned : Making → Option Source → Moment → Outcome
returned make None m = outcome m.heap 0 m.steps
returned make (Some v) m = value make v (counted m)

-- what a method leaves. No constructor leads back to itself, so they are at most as deep as there are classes
abbrev pub called : Form → Method → List ℕ → List Object → Outcome
called form m args heap =
    let make = made form (length form.classes)
    in let after = run make (statements_of m.body) (moment heap args 0)
    in if m.constructor then make m.class args heap 0 else returned make m.value after

abbrev pub body : Form → ℕ → List ℕ → List Object → Outcome
body form method args heap = option_map_or (λ m. called form m args heap) (slice_get form.methods method) (outcome heap 0 0)
