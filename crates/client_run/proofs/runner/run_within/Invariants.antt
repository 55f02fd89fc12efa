use Rattle.client_run.proofs.Whole.{IsRest}
use Rattle.flow_graph.specs.Points.{exit_at}
use Rattle.client_run.specs.Turns.{measure, place_in}
use Rattle.client_model.specs.Checked.{seen}
use Rattle.client_run.proofs.runner.run_within.Given as goal

-- what the rest of the run comes to, the whole run comes to
abbrev pub invariant-each : goal.invariant-each
invariant-each l = IsRest l.spec (seen l.program) l.choices l.budget (place_in l.runner)

abbrev pub decreases-each : goal.decreases-each
decreases-each l = measure (exit_at (seen l.program) 0) (place_in l.runner)
