-- Failing runs, true facts of clauses and alarms.
use Rattle.std.specs.Prelude.{◌↔◌, ℕ, Bool, List}
use Rattle.client_facts.specs.Setting.{Setting}
use Rattle.client_run.specs.Graph.{AreAgreed}
use Rattle.client_steps.specs.Runs.{Fails, IsRun}
use Rattle.client_walks.specs.Failures.{IsFirstTrue, IsTrueAt, NoneBefore}
use Rattle.client_walks.specs.PathPrograms.{IsWellBuilt, choices_of}
use Rattle.client_walks.specs.declared.alarm.Alarm.{Alarm}
use Rattle.walk_laws.specs.Premises.{IsFit}

-- the run on some choices fails
pub record SomeFails (g : Setting) : Type 0 where
  pub choices : List Bool
  pub budget : ℕ
  pub call : ℕ
  pub clause : ℕ
  pub left : ℕ
  pub run : IsRun g.form g.client choices budget (Fails call clause left)

-- some clause's fact is true along some path to its call
pub record SomeIsTrue (g : Setting) : Type 0 where
  pub call : ℕ
  pub clause : ℕ
  pub is_true : IsTrueAt g call clause

abbrev pub RunsArePaths : Type 0
RunsArePaths = (g : Setting) → IsFit g → AreAgreed g.client → SomeFails g ↔ SomeIsTrue g

-- the run on the alarm's choices fails at its call and clause, where no clause's fact is true before
abbrev pub AlarmsFail : Type 0
AlarmsFail =
    (g : Setting) → IsFit g → AreAgreed g.client → (a : Alarm) (built : IsWellBuilt g a) → NoneBefore g built.procedure built.point built.path →
    IsFirstTrue g built.procedure built.point built.path a.call a.clause →
    (budget : ℕ) × IsRun g.form g.client (choices_of g a built) budget (Fails a.call a.clause 0)
