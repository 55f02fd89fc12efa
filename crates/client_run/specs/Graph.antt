-- What it means that points go on as a client's statements do (own).
use Rattle.std.specs.Prelude.{◌≡◌, ℕ, suc, ◌<◌, Bool, true, false, Option, Some, None, length, option_and_then, slice_get}
use Rattle.client_model.specs.Nodes.{Tree, Trees, Step, If, While, Break, Continue, Return, end, ◌▹◌}
use Rattle.client_model.specs.declared.form.Point.{Point}
use Rattle.client_model.specs.declared.form.Point.TheVariants as point
use Rattle.client_model.specs.CheckedForm.{ClientForm, ProcedureForm}
use Rattle.client_model.specs.Ways.{Ways, first_point, in_loop}
use Rattle.client_steps.specs.States.{Call, call_in, procedure_at}
use Rattle.flow_graph.specs.Points.{exit_of, next_in, ways_at}

-- the outcome of a test is done there
abbrev pub is_test : Option Point → Bool
is_test (Some (point.Branch call)) = true
is_test other = false

-- the point of a statement that is no test goes on there
pub record GoesTo (next : Option (ℕ × ℕ)) (here : Option Point) (on : ℕ) : Type 0 where
  pub ways : next ≡ Some (on, on)
  pub plain : is_test here ≡ false

-- the point of a test goes there on T, and there on F
pub record Tests (next : Option (ℕ × ℕ)) (here : Option Point) (on_true on_false : ℕ) : Type 0 where
  pub ways : next ≡ Some (on_true, on_false)
  pub test : is_test here ≡ true

-- and it calls no procedure
pub record Leaves (next : Option (ℕ × ℕ)) (here : Option Point) (on : ℕ) : Type 0 where
  pub goes : GoesTo next here on
  pub plain : option_and_then call_in here ≡ None

-- these points, which go on so, go on as the statements do
abbrev mutual
  pub Agree : (ℕ → Option (ℕ × ℕ)) → (ℕ → Option Point) → Trees → Ways → Type 0
  Agree next points end w = Unit {0}
  Agree next points (x ▹ xs) w = Agrees next points x (record w { on = first_point xs w.on }) × Agree next points xs w

  pub Agrees : (ℕ → Option (ℕ × ℕ)) → (ℕ → Option Point) → Tree → Ways → Type 0
  Agrees next points (Step number) w = GoesTo (next number) (points number) w.on
  Agrees next points (If number first second) w =
      Tests (next number) (points number) (first_point first w.on) (first_point second w.on)
      × Agree next points first w
      × Agree next points second w
  Agrees next points (While number inner) w =
      Tests (next number) (points number) (first_point inner number) w.on × Agree next points inner (in_loop number w)
  Agrees next points (Break number) w = Leaves (next number) (points number) w.broken
  Agrees next points (Continue number) w = Leaves (next number) (points number) w.again
  Agrees next points (Return number) w = Leaves (next number) (points number) w.exit

-- of a whole body with this exit
abbrev pub whole : ℕ → Ways
whole exit = record { on = exit; broken = exit; again = exit; exit = exit }

-- a procedure is entered at point 0, and its points go on as its statements do, up to its exit
pub record IsAgreed (x : ProcedureForm) : Type 0 where
  pub agree : Agree (slice_get (next_in x)) (slice_get x.points) x.shape (whole (exit_of x))
  pub first : first_point x.shape (exit_of x) ≡ 0
  pub many : length (next_in x) ≡ exit_of x

-- those of a client do, the start goes from each of its points to the next, and no procedure calls it
pub record AreAgreed (client : ClientForm) : Type 0 where
  pub procedures : (p : ℕ) (x : ProcedureForm) → procedure_at client p ≡ Some x → IsAgreed x
  pub start : (number : ℕ) (ways : ℕ × ℕ) → ways_at client 0 number ≡ Some ways → ways ≡ (suc number, suc number)
  pub called : (p number : ℕ) (x : ProcedureForm) (here : Point) (k : Call) → procedure_at client p ≡ Some x → slice_get x.points number ≡ Some here →
      call_in here ≡ Some k → 0 < k.callee
