-- Objects keep their classes, whatever the heap.
use Rattle.std.proofs.Common.{ℕ, zero, suc, ◌+◌, List, [], ◌∷◌, ◌++◌, length}
use Rattle.std.specs.Prelude.{Bool, true, false, Option, Some, None, slice_get, if◌then◌else◌}
use Rattle.std.specs.Option.{option_map_or}
use Rattle.easl_model.specs.{Change, Local, Statement, Write, body_of, constructor_of, statements_of}
use Rattle.easl_model.specs.Form.{Form}
use Rattle.easl_model.specs.Statements.{Statements, If, none, ◌▸◌}
use Rattle.easl_model.specs.declared.form.Method.{Method}
use Rattle.easl_model.specs.declared.form.Source.{Source}
use Rattle.easl_model.specs.declared.form.Source.TheVariants.{Reach, Make}
use Rattle.easl_heap.specs.{KeepsClasses, Making, Moment, Object, Outcome, body, called, counted, fresh, holds, made, moment, reached, returned, run, step}
use Rattle.easl_heap.specs.{value}
use Rattle.easl_heap.proofs.Whole.{adding_keeps, writing_keeps}

abbrev MakingKeeps : Making → Type 0
MakingKeeps make = (class : ℕ) (args : List ℕ) (heap : List Object) (steps : ℕ) → KeepsClasses heap (make class args heap steps).heap

value_keeps : (make : Making) → MakingKeeps make → (v : Source) (m : Moment) → KeepsClasses m.heap (value make v m).heap
value_keeps make keeps (Reach path) m class n is = is
value_keeps make keeps (Make made args) m class n is = keeps made _ m.heap m.steps class n is

either_keeps : (b : Bool) (heap : List Object) (x y : Moment) → KeepsClasses heap x.heap → KeepsClasses heap y.heap → KeepsClasses heap (if b then x else y).heap
either_keeps true heap x y k l = k
either_keeps false heap x y k l = l

mutual
  step_keeps : (make : Making) → MakingKeeps make → (x : Statement) (m : Moment) → KeepsClasses m.heap (step make x m).heap
  step_keeps make keeps (Local v) m class n is = value_keeps make keeps v m class n is
  step_keeps make keeps (Change slot v) m class n is = value_keeps make keeps v m class n is
  step_keeps make keeps (Write target field v) m class n is =
      writing_keeps (value make v m).heap (reached m.heap m.slots target) field (value make v m).result class n
      (value_keeps make keeps v m class n is)
  step_keeps make keeps (If c first second) m class n is =
      either_keeps (holds m.heap m.slots c) m.heap (run make first m) (run make second m) (run_keeps make keeps first m) (run_keeps make keeps second m) class n is

  run_keeps : (make : Making) → MakingKeeps make → (xs : Statements) (m : Moment) → KeepsClasses m.heap (run make xs m).heap
  run_keeps make keeps none m class n is = is
  run_keeps make keeps (x ▸ xs) m class n is =
      run_keeps make keeps xs (step make x (counted m)) class n (step_keeps make keeps x (counted m) class n is)

made_keeps : (form : Form) (depth : ℕ) → MakingKeeps (made form depth)
made_keeps form zero made args heap steps class n is = adding_keeps heap (fresh form made) class n is
made_keeps form (suc depth) of args heap steps class n is =
    run_keeps (made form depth) (made_keeps form depth) (body_of form (constructor_of form of))
    (moment (heap ++ fresh form of ∷ []) ((length heap + 1) ∷ args) steps) class n
    (adding_keeps heap (fresh form of) class n is)

returned_keeps : (make : Making) → MakingKeeps make → (v : Option Source) (m : Moment) → KeepsClasses m.heap (returned make v m).heap
returned_keeps make keeps None m class n is = is
returned_keeps make keeps (Some v) m class n is = value_keeps make keeps v (counted m) class n is

chosen_keeps : (b : Bool) (heap : List Object) (x y : Outcome) → KeepsClasses heap x.heap → KeepsClasses heap y.heap → KeepsClasses heap (if b then x else y).heap
chosen_keeps true heap x y k l = k
chosen_keeps false heap x y k l = l

called_keeps : (form : Form) (m : Method) (args : List ℕ) (heap : List Object) → KeepsClasses heap (called form m args heap).heap
called_keeps form m args heap =
    let make : Making = made form (length form.classes) in
    let keeps : MakingKeeps make = made_keeps form (length form.classes) in
    let start : Moment = moment heap args 0 in
    let after : Moment = run make (statements_of m.body) start in
    chosen_keeps m.constructor heap (make m.class args heap 0) (returned make m.value after)
    (keeps m.class args heap 0)
    (λ class n is. returned_keeps make keeps m.value after class n (run_keeps make keeps (statements_of m.body) start class n is))

found_keeps : (form : Form) (o : Option Method) (args : List ℕ) (heap : List Object) (x : Outcome) → KeepsClasses heap x.heap
    → KeepsClasses heap (option_map_or (λ m. called form m args heap) o x).heap
found_keeps form None args heap x keeps = keeps
found_keeps form (Some m) args heap x keeps = called_keeps form m args heap

-- a body leaves each object in its class
pub body_keeps : (form : Form) (n : ℕ) (args : List ℕ) (heap : List Object) → KeepsClasses heap (body form n args heap).heap
body_keeps form n args heap = found_keeps form (slice_get form.methods n) args heap _ (λ class k is. is)
