-- The run on an alarm's choices fails at its call and clause.
use Rattle.std.proofs.Common.{◌≡◌, ℕ, ◌<◌, ⊎_elim, [], append-nil, eq-or-lt_of_le, refl, subst}
use Rattle.client_facts.specs.Setting.{Setting, exit_of}
use Rattle.client_steps.specs.Deeds.{Broke, Deed, Did, done_at}
use Rattle.client_steps.specs.Runs.{Fails, IsRun}
use Rattle.client_steps.specs.States.{State, at_first, entered, returned}
use Rattle.client_walks.specs.Failures.{NoneAt, NoneIn, NoneOn}
use Rattle.client_walks.specs.PathPrograms.{IsPathOf, StandsAt, at_call, choices_of, in_initialiser}
use Rattle.client_walks.specs.Paths.{Entry, LeadsIn, LeadsTo, Path, inside, start}
use Rattle.client_walks.specs.Walks.{Leads, Walk}
use Rattle.client_walks.specs.Walks as walk
use Rattle.client_walks.specs.declared.alarm.Alarm.{Alarm}
use Rattle.failure_laws.proofs.Ends.{holds_at, state_at, true_along, true_where_broke}
use Rattle.failure_laws.specs.Laws.{AlarmsFail}
use Rattle.run_laws.proofs.Whole.{runs_are_breaks}
use Rattle.run_laws.specs.Breaks.{Breaks}
use Rattle.walk_laws.specs.Premises.{IsFit}

module _ (g : Setting) (fit : IsFit g) where
  -- where no clause's fact is true along a path, no clause is false at its end
  none_broke : (p n : ℕ) (path : Path g p n) (t : State) (call clause : ℕ) → LeadsTo g p n path (at_first g.client) t →
      done_at g.form g.client p n t ≡ Broke call clause → NoneAt g p n path → ⊥
  none_broke p n path t call clause leads broke none =
      let d = true_where_broke g fit p n path t leads call clause broke in none call clause d.0 d.1 d.2 d.3

  -- a walk on which no clause's fact is true leads on
  leads_on : (p n : ℕ) (w : Walk g p n) (into : Entry g p) (s : State) → LeadsIn g p into (at_first g.client) s → NoneOn g p n w into →
      (t : State) × Leads g p n w s t
  leads_on p n (walk.begin q) into s way none = (s, refl)
  leads_on p n (walk.step q l m b w is) into s way none =
      let before = leads_on q l w into s way none.0 in of_deed before.0 before.1 (done_at g.form g.client q l before.0) refl
    where
      of_deed : (u : State) → Leads g q l w s u → (d : Deed) → done_at g.form g.client q l u ≡ d →
          (t : State) × Leads g q m (walk.step q l m b w is) s t
      of_deed u leads (Broke call clause) done =
          absurd (none_broke q l (record { entry = into; walk = w }) u call clause (s, way, leads) done none.1)
      of_deed u leads (Did t steps) done = (t, (u, leads, (steps, done)))
  leads_on p n (walk.call q l m k w is inner) into s way none =
      let before = leads_on q l w into s way none.0 in
      let after =
      leads_on k.callee (exit_of g k.callee) inner (inside q l m k into w is) (entered g.client k before.0) (s, before.0, way, before.1, refl) none.1 in
      (returned k before.0 after.0, (before.0, after.0, before.1, after.1, refl))

  leads_in : (p : ℕ) (into : Entry g p) → NoneIn g p into → (t : State) × LeadsIn g p into (at_first g.client) t
  leads_in p start none = (at_first g.client, refl)
  leads_in p (inside q n m k into w is) none =
      let before = leads_in q into none.0 in
      let after = leads_on q n w into before.0 before.1 none.1 in
      (entered g.client k after.0, (before.0, after.0, before.1, after.1, refl))

-- the path of an alarm ends at its call
path_at : (g : Setting) (a : Alarm) (p n : ℕ) (path : Path g p n) → IsPathOf g a p n path → StandsAt g a.call p n
path_at g a p n path (in_initialiser l i m k w s at goes segment of_main none) = at
path_at g a p n path (at_call number q l into w s at by segment of describes) = at

pub alarms_fail : AlarmsFail
alarms_fail g fit agreed a built none true_first =
    let p : ℕ = built.procedure in
    let n : ℕ = built.point in
    let at : StandsAt g a.call built.procedure built.point = path_at g a built.procedure built.point built.path built.of in
    let way = leads_in g fit built.procedure built.path.entry none.0 in
    let end = leads_on g fit built.procedure built.point built.path.walk built.path.entry way.0 way.1 none.1 in
    let leads : LeadsTo g built.procedure built.point built.path (at_first g.client) end.0 = (way.0, way.1, end.1) in
    let state = state_at g fit built.procedure built.point built.path end.0 leads in
    let holds =
    holds_at g fit built.procedure built.point built.path end.0 leads a.call a.clause true_first.fact at true_first.of_clause true_first.true_along in
    let broke = (fit.clauses built.procedure built.point).holds end.0 a.call a.clause true_first.fact state at true_first.of_clause holds in
    let d = (fit.clauses built.procedure built.point).broke end.0 a.call broke.0 state broke.2 in
    let clause_is : broke.0 ≡ a.clause =
    ⊎_elim
    (λ (e : broke.0 ≡ a.clause). e)
    (λ (l : broke.0 < a.clause).
    absurd (true_first.lower broke.0 d.0 l d.1 (true_along g fit built.procedure built.point built.path end.0 leads a.call broke.0 d.0 at d.1 d.2)))
    (eq-or-lt_of_le broke.1)
    in
    let breaks : Breaks g a.call a.clause (choices_of g a built) = record {
      procedure = built.procedure;
      point = built.point;
      path = built.path;
      state = end.0;
      leads = leads;
      broke = subst (λ c. done_at g.form g.client built.procedure built.point end.0 ≡ Broke a.call c) clause_is broke.2;
      taken = refl;
    } in
    let run = (runs_are_breaks g agreed a.call a.clause (choices_of g a built) []).0 breaks in
    (run.0, subst (λ cs. IsRun g.form g.client cs run.0 (Fails a.call a.clause 0)) (append-nil (choices_of g a built)) run.1)
