-- What is true at the end of a path that leads there.
use Rattle.std.proofs.Common.{◌≡◌, ℕ}
use Rattle.client_facts.specs.Facts.{Holds}
use Rattle.client_facts.specs.Flows.{IsClauseFact}
use Rattle.client_facts.specs.Names.{no_slots}
use Rattle.client_facts.specs.Setting.{Setting}
use Rattle.client_facts.specs.States.{IsState}
use Rattle.client_facts.specs.declared.fact.Fact.{Fact}
use Rattle.client_steps.specs.Deeds.{Broke, done_at}
use Rattle.client_steps.specs.States.{State, at_first}
use Rattle.client_walks.specs.PathPrograms.{StandsAt}
use Rattle.client_walks.specs.Paths.{IsTrueAlong, LeadsTo, Path}
use Rattle.walk_laws.proofs.AlongPaths.{paths_are_exact, state_in}
use Rattle.walk_laws.proofs.Kept.{states_kept}
use Rattle.walk_laws.specs.Premises.{ClauseFactsFit, ClausesFit, IsFit}

module _ (g : Setting) (fit : IsFit g) (p n : ℕ) (path : Path g p n) (t : State) (leads : LeadsTo g p n path (at_first g.client) t) where
  pub state_at : IsState g p n t no_slots
  state_at = (states_kept g fit p n path.walk leads.0 t no_slots (state_in g fit p path.entry leads.0 leads.1) leads.2).0

  -- a clause's fact that is true in the state is true along the path
  pub true_along : (call clause : ℕ) (d : Fact) → StandsAt g call p n → IsClauseFact g call clause d → Holds g t no_slots d → IsTrueAlong g p n path d
  true_along call clause d at of holds =
      let facts : ClauseFactsFit g p n call clause d = (fit.clauses p n).facts call clause d at of in
      (paths_are_exact g fit p n path t d leads facts.fact facts.bare).0 holds

  -- and the other way round
  pub holds_at : (call clause : ℕ) (d : Fact) → StandsAt g call p n → IsClauseFact g call clause d → IsTrueAlong g p n path d → Holds g t no_slots d
  holds_at call clause d at of along =
      let facts : ClauseFactsFit g p n call clause d = (fit.clauses p n).facts call clause d at of in
      (paths_are_exact g fit p n path t d leads facts.fact facts.bare).1 along

  -- where a clause is false there, one of its facts is true along the path
  pub true_where_broke : (call clause : ℕ) → done_at g.form g.client p n t ≡ Broke call clause →
      (d : Fact) × StandsAt g call p n × IsClauseFact g call clause d × IsTrueAlong g p n path d
  true_where_broke call clause broke =
      let fits : ClausesFit g p n = fit.clauses p n in
      let at : StandsAt g call p n = fits.at t call clause broke in
      let d = fits.broke t call clause state_at broke in
      (d.0, at, d.1, true_along call clause d.0 at d.1 d.2)
