-- Small clients and their runs, each constructed by the rules.
use Rattle.std.proofs.Common.{ℕ, zero, suc, Bool, true, false, List, [], ◌∷◌, length, refl}
use Rattle.client_model.proofs.Texts.{at, calls, free, procedure, returns, void, w, small}
use Rattle.client_model.specs.CheckedForm.{form_of}
use Rattle.client_model.specs.Statements.{Do, none, ◌▸◌}
use Rattle.client_model.specs.Trees.{Client}
use Rattle.client_model.specs.Statements as written
use Rattle.client_steps.specs.Runs.{Back, Broken, Cut, Ends, Fails, IsRun, Leaves, Moment, Outcome, Passes, Result, RunsAll, Short, Stopped, around, branches}
use Rattle.client_steps.specs.Runs.{breaks, continues, enters, goes_on, inside, leaves, loops, no_more, on_false, on_true, out, row, step, unpaid, untried}
use Rattle.client_steps.specs.Runs as runs
use Rattle.client_steps.specs.States.{State, body_at}

-- void z() { while (?) { if (?) { break; } else { continue; } } if (?) { return; } z(); } void main() { z(); }
abbrev leaving : Client
leaving = record {
  items = (procedure void (w "z" 6) [] (written.While (at 12) (free 19) (written.If (at 24) (free 28) (written.Break (at 33) ▸ none)
      (written.Continue (at 49)
      ▸ none) true ▸ none)
      ▸ written.If (at 63) (free 67) (returns 72 ▸ none) none false ▸ Do (calls (w "z" 82) []) ▸ none) 87 ∷ procedure void (w "main" 94) []
      (Do (calls (w "z" 103) []) ▸ none) 108 ∷ []);
  end = at 109;
}

-- T F: the block continues; T T: it breaks; T: z returns early. That takes nine units, the start's call of `main` none
leaving_ends : IsRun small (form_of small leaving) (true ∷ false ∷ true ∷ true ∷ true ∷ []) 9 (Ends 0)
leaving_ends = record {
  result = _;
  runs = row _ _ _ _ _ _ (step _ _ _ _ (runs.calls _ _ _ _ _ _ (enters _ _ _ (row _ _ _ _ _ _ (step _ _ _ _ (runs.calls _ _ _ _ _ _ (enters _ _ _
      (row _ _ _ _ _ _
      (loops _ _ _ _ _ (inside _ _ _ _ _ _ (row _ _ _ _ _ _ (branches _ _ _ _ _ _ (on_false _ _ _ _ _ (row _ _ _ _ _ _ (continues _ _ _ _ refl)
      (leaves _ _ _)))) (leaves _ _ _))
      (around _ _ _ _ _ (loops _ _ _ _ _ (inside _ _ _ _ _ _ (row _ _ _ _ _ _ (branches _ _ _ _ _ _ (on_true _ _ _ _ _ (row _ _ _ _ _ _
      (breaks _ _ _ _ refl) (leaves _ _ _)))) (leaves _ _ _))
      (out _ _ _ _))))))
      (goes_on _ _ _ _ (row _ _ _ _ _ _ (branches _ _ _ _ _ _ (on_true _ _ _ _ _ (row _ _ _ _ _ _ (runs.returns _ _ _ _ refl) (leaves _ _ _))))
      (leaves _ _ _))))) refl))
      (goes_on _ _ _ _ (no_more _ _)))) refl))
      (goes_on _ _ _ _ (no_more _ _));
  comes_to = refl;
}

-- void z() { z(); } void main() { z(); }
abbrev endless : Client
endless = record {
  items = (procedure void (w "z" 6) [] (Do (calls (w "z" 12) []) ▸ none) 17 ∷ procedure void (w "main" 24) [] (Do (calls
      (w "z" 33) []) ▸ none) 38 ∷ []);
  end = at 39;
}

-- each call of z takes a unit
z_cut : (s : State) (choices : List Bool) (budget : ℕ) →
    RunsAll small (form_of small endless) 1 (body_at (form_of small endless) 1) (record { state = s; choices = choices; budget = budget }) (Leaves
    (Stopped Cut))
z_cut s choices zero = row _ _ _ _ _ _ (step _ _ _ _ (runs.calls _ _ _ _ _ _ (unpaid _ _) refl)) (leaves _ _ _)
z_cut s choices (suc budget) = row _ _ _ _ _ _ (step _ _ _ _ (runs.calls _ _ _ _ _ _ (enters _ _ _ (z_cut _ choices budget)) refl)) (leaves _ _ _)

main_cut : (s : State) (choices : List Bool) (budget : ℕ) →
    RunsAll small (form_of small endless) 2 (body_at (form_of small endless) 2) (record { state = s; choices = choices; budget = budget }) (Leaves
    (Stopped Cut))
main_cut s choices zero = row _ _ _ _ _ _ (step _ _ _ _ (runs.calls _ _ _ _ _ _ (unpaid _ _) refl)) (leaves _ _ _)
main_cut s choices (suc budget) = row _ _ _ _ _ _ (step _ _ _ _ (runs.calls _ _ _ _ _ _ (enters _ _ _ (z_cut _ choices budget)) refl)) (leaves _ _ _)

-- a recursion without end is cut at each budget
endless_is_cut : (choices : List Bool) (budget : ℕ) → IsRun small (form_of small endless) choices budget Cut
endless_is_cut choices budget = record {
  result = Leaves (Stopped Cut);
  runs = row _ _ _ _ _ _ (step _ _ _ _ (runs.calls _ _ _ _ _ _ (enters _ _ _ (main_cut _ choices budget)) refl)) (leaves _ _ _);
  comes_to = refl;
}

-- with one unit less the `return` has none
leaving_is_cut : IsRun small (form_of small leaving) (true ∷ false ∷ true ∷ true ∷ true ∷ []) 8 Cut
leaving_is_cut = record {
  result = _;
  runs = row _ _ _ _ _ _ (step _ _ _ _ (runs.calls _ _ _ _ _ _ (enters _ _ _ (row _ _ _ _ _ _ (step _ _ _ _ (runs.calls _ _ _ _ _ _ (enters _ _ _
      (row _ _ _ _ _ _
      (loops _ _ _ _ _ (inside _ _ _ _ _ _ (row _ _ _ _ _ _ (branches _ _ _ _ _ _ (on_false _ _ _ _ _ (row _ _ _ _ _ _ (continues _ _ _ _ refl)
      (leaves _ _ _)))) (leaves _ _ _))
      (around _ _ _ _ _ (loops _ _ _ _ _ (inside _ _ _ _ _ _ (row _ _ _ _ _ _ (branches _ _ _ _ _ _ (on_true _ _ _ _ _ (row _ _ _ _ _ _
      (breaks _ _ _ _ refl) (leaves _ _ _)))) (leaves _ _ _))
      (out _ _ _ _))))))
      (goes_on _ _ _ _ (row _ _ _ _ _ _ (branches _ _ _ _ _ _ (on_true _ _ _ _ _ (row _ _ _ _ _ _ (runs.returns _ _ _ _ refl) (leaves _ _ _))))
      (leaves _ _ _))))) refl))
      (leaves _ _ _))) refl))
      (leaves _ _ _);
  comes_to = refl;
}

-- T F: the block continues; then no choice is left
leaving_is_short : IsRun small (form_of small leaving) (true ∷ false ∷ []) 9 Short
leaving_is_short = record {
  result = _;
  runs = row _ _ _ _ _ _ (step _ _ _ _ (runs.calls _ _ _ _ _ _ (enters _ _ _ (row _ _ _ _ _ _ (step _ _ _ _ (runs.calls _ _ _ _ _ _ (enters _ _ _
      (row _ _ _ _ _ _
      (loops _ _ _ _ _ (inside _ _ _ _ _ _ (row _ _ _ _ _ _ (branches _ _ _ _ _ _ (on_false _ _ _ _ _ (row _ _ _ _ _ _ (continues _ _ _ _ refl)
      (leaves _ _ _)))) (leaves _ _ _))
      (around _ _ _ _ _ (loops _ _ _ _ _ (untried _ _ _ _)))))
      (leaves _ _ _))) refl)) (leaves _ _ _))) refl)) (leaves _ _ _);
  comes_to = refl;
}

-- void main() { }
abbrev idle : Client
idle = record { items = procedure void (w "main" 6) [] none 15 ∷ []; end = at 16 }

-- an empty `main` takes no unit
idle_ends : (choices : List Bool) → IsRun small (form_of small idle) choices 0 (Ends (length choices))
idle_ends choices = record {
  result = _;
  runs = row _ _ _ _ _ _ (step _ _ _ _ (runs.calls _ _ _ _ _ _ (enters _ _ _ (no_more _ _)) refl)) (goes_on _ _ _ _ (no_more _ _));
  comes_to = refl;
}
