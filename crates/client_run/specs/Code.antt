-- What the code keeps, in the words of runs.
use Rattle.std.specs.Prelude.{ℕ, ◌≤◌, List, [], ◌∷◌, drop, take}
use Rattle.client_run.specs.Places.{Waiting}
use Rattle.client_run.specs.declared.frames.Caller.{Caller}

-- a caller, whose frame ends this list
abbrev pub waiting_of : Caller → List ℕ → Waiting
waiting_of w variables = record {
  procedure = w.procedure;
  point = w.point;
  target = w.target;
  variables = drop w.base variables;
  result = w.result;
}

-- the callers, the next one first, whose frames are this list
abbrev pub waiting_in : List Caller → List ℕ → List Waiting
waiting_in [] variables = []
waiting_in (w ∷ ws) variables = waiting_of w variables ∷ waiting_in ws (take w.base variables)

-- the frames of the callers, the next one first, end one at the other, and the first one here
abbrev pub AreInOrder : List Caller → ℕ → Type 0
AreInOrder [] end = Unit {0}
AreInOrder (w ∷ ws) end = (w.base ≤ end) × AreInOrder ws w.base
