-- Where the points of a procedure go on.
use Rattle.std.specs.Prelude.{ℕ, List, [], ◌∷◌, ◌++◌}
use Rattle.client_model.specs.Nodes.{Tree, Trees, Step, If, While, Break, Continue, Return, end, ◌▹◌}

-- what follows statements, and where a `break`, a `continue` and a `return` in them go
pub record Ways : Type 0 where
  pub on : ℕ
  pub broken : ℕ
  pub again : ℕ
  pub exit : ℕ

abbrev pub point_of : Tree → ℕ
point_of (Step point) = point
point_of (If point first second) = point
point_of (While point inner) = point
point_of (Break point) = point
point_of (Continue point) = point
point_of (Return point) = point

-- the first point of these statements, else what follows them
abbrev pub first_point : Trees → ℕ → ℕ
first_point end on = on
first_point (x ▹ xs) on = point_of x

-- in the block of the `while` at this point
abbrev pub in_loop : ℕ → Ways → Ways
in_loop point w = record w { on = point; broken = w.on; again = point }

abbrev mutual
  -- the points of these statements in order, with where each goes on T and on F; both are equal where it is no test
  pub ways_of : Ways → Trees → List (ℕ × ℕ)
  ways_of w end = []
  ways_of w (x ▹ xs) = ways_in (record w { on = first_point xs w.on }) x ++ ways_of w xs

  pub ways_in : Ways → Tree → List (ℕ × ℕ)
  ways_in w (Step point) = (w.on, w.on) ∷ []
  ways_in w (If point first second) = (first_point first w.on, first_point second w.on) ∷ ways_of w first ++ ways_of w second
  ways_in w (While point inner) = (first_point inner point, w.on) ∷ ways_of (in_loop point w) inner
  ways_in w (Break point) = (w.broken, w.broken) ∷ []
  ways_in w (Continue point) = (w.again, w.again) ∷ []
  ways_in w (Return point) = (w.exit, w.exit) ∷ []

-- of a procedure's statements, whose exit this is; nothing in them leaves a `while` that is not there
abbrev pub next_of : ℕ → Trees → List (ℕ × ℕ)
next_of exit shape = ways_of (record { on = exit; broken = exit; again = exit; exit = exit }) shape
