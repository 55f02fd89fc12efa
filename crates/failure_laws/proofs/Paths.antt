-- Some run fails exactly where some clause's fact is true along some path to its call.
use Rattle.std.proofs.Common.{◌≡◌, ℕ, ◌⊎◌, inl, inr, ⊎_elim, [], refl, subst, sym}
use Rattle.std.specs.Prelude.{Bool, List, ◌++◌, ◌-◌, length, take}
use Rattle.std.proofs.Common.{append-nil}
use Rattle.client_facts.specs.Setting.{Setting, exit_of}
use Rattle.client_run.specs.Graph.{AreAgreed}
use Rattle.client_steps.proofs.Alike.{fails_on_taken}
use Rattle.client_steps.specs.Deeds.{Broke, Deed, Did, done_at}
use Rattle.client_steps.specs.Runs.{Fails, IsRun}
use Rattle.client_steps.specs.States.{State, at_first, entered, returned}
use Rattle.client_walks.specs.Failures.{IsTrueAt}
use Rattle.client_walks.specs.Paths.{Entry, LeadsIn, LeadsTo, Path, choices_along, inside, start}
use Rattle.client_walks.specs.Walks.{Leads, Walk, begin, call, step}
use Rattle.failure_laws.proofs.Ends.{holds_at, state_at, true_where_broke}
use Rattle.failure_laws.specs.Laws.{RunsArePaths, SomeFails, SomeIsTrue}
use Rattle.run_laws.proofs.Whole.{runs_are_breaks}
use Rattle.run_laws.specs.Breaks.{Breaks}
use Rattle.walk_laws.specs.Premises.{IsFit}

-- some path breaks a clause
record SomeBreaks (g : Setting) : Type 0 where
  call : ℕ
  clause : ℕ
  choices : List Bool
  breaks : Breaks g call clause choices

module _ (g : Setting) where
  -- a path that leads somewhere breaks the clause that is false there
  breaks_at : (p n : ℕ) (path : Path g p n) (t : State) (number clause : ℕ) → LeadsTo g p n path (at_first g.client) t →
      done_at g.form g.client p n t ≡ Broke number clause → SomeBreaks g
  breaks_at p n path t number clause leads broke = record {
    call = number;
    clause = clause;
    choices = choices_along g p n path;
    breaks = record { procedure = p; point = n; path = path; state = t; leads = leads; broke = broke; taken = refl };
  }

  -- a walk leads on, or a clause is false on it
  walk_or_break : (p n : ℕ) (w : Walk g p n) (into : Entry g p) (s : State) → LeadsIn g p into (at_first g.client) s →
      ((t : State) × Leads g p n w s t) ⊎ SomeBreaks g
  walk_or_break p n (begin q) into s way = inl (s, refl)
  walk_or_break p n (step q l m b w is) into s way =
      ⊎_elim
      (λ (before : (u : State) × Leads g q l w s u). of_deed before.0 before.1 (done_at g.form g.client q l before.0) refl)
      (λ (breaks : SomeBreaks g). inr breaks)
      (walk_or_break q l w into s way)
    where
      of_deed : (u : State) → Leads g q l w s u → (d : Deed) → done_at g.form g.client q l u ≡ d →
          ((t : State) × Leads g q m (step q l m b w is) s t) ⊎ SomeBreaks g
      of_deed u leads (Broke number clause) done = inr (breaks_at q l (record { entry = into; walk = w }) u number clause (s, way, leads) done)
      of_deed u leads (Did t steps) done = inl (t, (u, leads, (steps, done)))
  walk_or_break p n (call q l m k w is inner) into s way =
      ⊎_elim
      (λ (before : (u : State) × Leads g q l w s u).
      ⊎_elim
      (λ (after : (v : State) × Leads g k.callee (exit_of g k.callee) inner (entered g.client k before.0) v).
      inl (returned k before.0 after.0, (before.0, after.0, before.1, after.1, refl)))
      (λ (breaks : SomeBreaks g). inr breaks)
      (walk_or_break k.callee (exit_of g k.callee) inner (inside q l m k into w is) (entered g.client k before.0) (s, before.0, way, before.1, refl)))
      (λ (breaks : SomeBreaks g). inr breaks)
      (walk_or_break q l w into s way)

  entry_or_break : (p : ℕ) (into : Entry g p) → ((t : State) × LeadsIn g p into (at_first g.client) t) ⊎ SomeBreaks g
  entry_or_break p start = inl (at_first g.client, refl)
  entry_or_break p (inside q n m k into w is) =
      ⊎_elim
      (λ (before : (s : State) × LeadsIn g q into (at_first g.client) s).
      ⊎_elim
      (λ (after : (t : State) × Leads g q n w before.0 t). inl (entered g.client k after.0, (before.0, after.0, before.1, after.1, refl)))
      (λ (breaks : SomeBreaks g). inr breaks)
      (walk_or_break q n w into before.0 before.1))
      (λ (breaks : SomeBreaks g). inr breaks)
      (entry_or_break q into)

  path_or_break : (p n : ℕ) (path : Path g p n) → ((t : State) × LeadsTo g p n path (at_first g.client) t) ⊎ SomeBreaks g
  path_or_break p n path =
      ⊎_elim
      (λ (before : (s : State) × LeadsIn g p path.entry (at_first g.client) s).
      ⊎_elim
      (λ (after : (t : State) × Leads g p n path.walk before.0 t). inl (after.0, (before.0, before.1, after.1)))
      (λ (breaks : SomeBreaks g). inr breaks)
      (walk_or_break p n path.walk path.entry before.0 before.1))
      (λ (breaks : SomeBreaks g). inr breaks)
      (entry_or_break p path.entry)

module _ (g : Setting) (fit : IsFit g) (agreed : AreAgreed g.client) where
  true_there : SomeFails g → SomeIsTrue g
  true_there some =
      let choices : List Bool = take (length some.choices - some.left) some.choices in
      let spent = fails_on_taken g.form g.client some.choices some.budget some.call some.clause some.left some.run in
      let run : IsRun g.form g.client (choices ++ []) some.budget (Fails some.call some.clause 0) =
      subst (λ cs. IsRun g.form g.client cs some.budget (Fails some.call some.clause 0)) (sym (append-nil choices)) spent.1 in
      let b : Breaks g some.call some.clause choices = (runs_are_breaks g agreed some.call some.clause choices []).1 (some.budget, run) in
      let d = true_where_broke g fit b.procedure b.point b.path b.state b.leads some.call some.clause b.broke in
      record {
        call = some.call;
        clause = some.clause;
        is_true = record {
          procedure = b.procedure;
          point = b.point;
          at = d.1;
          path = b.path;
          fact = d.0;
          of_clause = d.2;
          true_along = d.3;
        };
      }

  fails_by : SomeBreaks g → SomeFails g
  fails_by some =
      let run = (runs_are_breaks g agreed some.call some.clause some.choices []).0 some.breaks in
      record { choices = some.choices ++ []; budget = run.0; call = some.call; clause = some.clause; left = 0; run = run.1 }

  broken : SomeIsTrue g → SomeBreaks g
  broken some =
      let t : IsTrueAt g some.call some.clause = some.is_true in
      ⊎_elim
      (λ (l : (s : State) × LeadsTo g t.procedure t.point t.path (at_first g.client) s).
      let holds = holds_at g fit t.procedure t.point t.path l.0 l.1 some.call some.clause t.fact t.at t.of_clause t.true_along in
      let state = state_at g fit t.procedure t.point t.path l.0 l.1 in
      let broke = (fit.clauses t.procedure t.point).holds l.0 some.call some.clause t.fact state t.at t.of_clause holds in
      breaks_at g t.procedure t.point t.path l.0 some.call broke.0 l.1 broke.2)
      (λ (breaks : SomeBreaks g). breaks)
      (path_or_break g t.procedure t.point t.path)

pub runs_are_paths : RunsArePaths
runs_are_paths g fit agreed = (λ fails. true_there g fit agreed fails, λ some. fails_by g fit agreed (broken g fit agreed some))
