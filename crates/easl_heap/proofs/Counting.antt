-- How many statements are executed.
use Rattle.std.proofs.Common.{ℕ, zero, suc, ◌+◌, ◌≤◌, length, List, arith}
use Rattle.std.specs.Prelude.{Bool, true, false, Option, Some, None, if◌then◌else◌}
use Rattle.easl_model.specs.{Change, Local, Statement, Write, body_of, constructor_count, constructor_of, count_in_place, count_of, statement_count}
use Rattle.easl_model.specs.{statements_of, total_count, value_count}
use Rattle.easl_model.specs.Form.{Form}
use Rattle.easl_model.specs.Statements.{Statements, If, none, ◌▸◌}
use Rattle.easl_model.specs.declared.form.Method.{Method}
use Rattle.easl_model.specs.declared.form.Source.{Source}
use Rattle.easl_model.specs.declared.form.Source.TheVariants.{Reach, Make}
use Rattle.easl_heap.specs.{Making, Moment, Object, Outcome, called, counted, holds, made, returned, run, step, value}

-- each construction executes some statements, and no more than this says
pub record Counts (make : Making) (count : ℕ → ℕ) : Type 0 where
  pub most : (class : ℕ) (args : List ℕ) (heap : List Object) (n : ℕ) → (make class args heap n).steps ≤ n + count class
  pub later : (class : ℕ) (args : List ℕ) (heap : List Object) (n : ℕ) → n ≤ (make class args heap n).steps

either_most : (b : Bool) (x y : Moment) (n k l : ℕ) → x.steps ≤ n + k → y.steps ≤ n + l → (if b then x else y).steps ≤ n + (k + l)
either_most true x y n k l e f = omega (arith, e)
either_most false x y n k l e f = omega (arith, f)

either_later : (b : Bool) (x y : Moment) (k : ℕ) → k ≤ x.steps → k ≤ y.steps → k ≤ (if b then x else y).steps
either_later true x y k e f = e
either_later false x y k e f = f

module _ (make : Making) (count : ℕ → ℕ) (known : Counts make count) where
  value_most : (v : Source) (m : Moment) → (value make v m).steps ≤ m.steps + count_of count v
  value_most (Reach r) m = omega arith
  value_most (Make class args) m = known.most class _ _ _

  value_after : (v : Source) (m : Moment) → m.steps ≤ (value make v m).steps
  value_after (Reach r) m = omega arith
  value_after (Make class args) m = known.later class _ _ _

  mutual
    step_most : (x : Statement) (m : Moment) → (step make x (counted m)).steps ≤ m.steps + statement_count count x
    step_most (Local v) m = omega (arith, value_most v (counted m))
    step_most (Change slot v) m = omega (arith, value_most v (counted m))
    step_most (Write target field v) m = omega (arith, value_most v (counted m))
    step_most (If c first second) m =
        let at : Moment = counted m in
        let most = either_most (holds m.heap m.slots c) (run make first at) (run make second at) (m.steps + 1) (total_count count first) (total_count count second) (run_most first at) (run_most second at) in
        omega (arith, most)

    run_most : (xs : Statements) (m : Moment) → (run make xs m).steps ≤ m.steps + total_count count xs
    run_most none m = omega arith
    run_most (x ▸ xs) m = omega (arith, run_most xs (step make x (counted m)), step_most x m)

  mutual
    step_after : (x : Statement) (m : Moment) → m.steps ≤ (step make x m).steps
    step_after (Local v) m = value_after v m
    step_after (Change slot v) m = value_after v m
    step_after (Write target field v) m = value_after v m
    step_after (If c first second) m =
        either_later (holds m.heap m.slots c) (run make first m) (run make second m) m.steps (run_after first m) (run_after second m)

    run_after : (xs : Statements) (m : Moment) → m.steps ≤ (run make xs m).steps
    run_after none m = omega arith
    run_after (x ▸ xs) m = omega (arith, run_after xs (step make x (counted m)), step_after x (counted m))

  returned_most : (v : Option Source) (m : Moment) → (returned make v m).steps ≤ m.steps + value_count count v
  returned_most None m = omega arith
  returned_most (Some v) m = omega (arith, value_most v (counted m))

made_counts : (form : Form) (depth : ℕ) → Counts (made form depth) (constructor_count form depth)
made_counts form zero = record { most = λ class args heap n. omega arith; later = λ class args heap n. omega arith }
made_counts form (suc depth) =
    let make : Making = made form depth in
    let count : ℕ → ℕ = constructor_count form depth in
    let known : Counts make count = made_counts form depth in
    record {
      most = λ class args heap n. run_most make count known (body_of form (constructor_of form class)) _;
      later = λ class args heap n. run_after make count known (body_of form (constructor_of form class)) _;
    }

pub value_later : (form : Form) (depth : ℕ) (v : Source) (m : Moment) → m.steps ≤ (value (made form depth) v m).steps
value_later form depth = value_after (made form depth) (constructor_count form depth) (made_counts form depth)

pub step_later : (form : Form) (depth : ℕ) (x : Statement) (m : Moment) → m.steps ≤ (step (made form depth) x m).steps
step_later form depth = step_after (made form depth) (constructor_count form depth) (made_counts form depth)

pub run_later : (form : Form) (depth : ℕ) (xs : Statements) (m : Moment) → m.steps ≤ (run (made form depth) xs m).steps
run_later form depth = run_after (made form depth) (constructor_count form depth) (made_counts form depth)

chosen_most : (b : Bool) (x y : Outcome) (k l : ℕ) → x.steps ≤ k → y.steps ≤ l → (if b then x else y).steps ≤ (if b then k else l)
chosen_most true x y k l e f = e
chosen_most false x y k l e f = f

-- a method executes no more than its statements in place
pub called_most : (form : Form) (m : Method) (args : List ℕ) (heap : List Object) → (called form m args heap).steps ≤ count_in_place form m
called_most form m args heap =
    let make : Making = made form (length form.classes)
    in let count : ℕ → ℕ = constructor_count form (length form.classes)
    in let known : Counts make count = made_counts form (length form.classes)
    in let begun : Moment = record { heap = heap; slots = args; steps = 0 }
    in let after : Moment = run make (statements_of m.body) begun
    in chosen_most m.constructor
    (make m.class args heap 0)
    (returned make m.value after)
    (count m.class)
    (total_count count (statements_of m.body) + value_count count m.value)
    (omega (arith, known.most m.class args heap 0))
    (omega (arith, returned_most make count known m.value after, run_most make count known (statements_of m.body) begun))
