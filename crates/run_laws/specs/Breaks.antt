-- Paths that break a clause, and the runs that fail at it.
use Rattle.std.specs.Prelude.{◌≡◌, ◌↔◌, ℕ, Bool, List, ◌++◌, length}
use Rattle.client_facts.specs.Setting.{Setting}
use Rattle.client_run.specs.Graph.{AreAgreed}
use Rattle.client_steps.specs.Deeds.{Broke, done_at}
use Rattle.client_steps.specs.Runs.{Fails, IsRun}
use Rattle.client_steps.specs.States.{State, at_first}
use Rattle.client_walks.specs.Paths.{LeadsTo, Path, choices_along}

-- a path to the call on which no earlier clause is false, and where this clause is the first that is false; these are the outcomes of its tests
pub record Breaks (g : Setting) (call clause : ℕ) (choices : List Bool) : Type 0 where
  pub procedure : ℕ
  pub point : ℕ
  pub path : Path g procedure point
  pub state : State
  pub leads : LeadsTo g procedure point path (at_first g.client) state
  pub broke : done_at g.form g.client procedure point state ≡ Broke call clause
  pub taken : choices ≡ choices_along g procedure point path

-- a run fails at a clause exactly where a path breaks it, and took the outcomes of the path's tests
abbrev pub RunsAreBreaks : Type 0
RunsAreBreaks =
    (g : Setting) → AreAgreed g.client → (call clause : ℕ) (choices rest : List Bool) →
    Breaks g call clause choices ↔ ((budget : ℕ) × IsRun g.form g.client (choices ++ rest) budget (Fails call clause (length rest)))
