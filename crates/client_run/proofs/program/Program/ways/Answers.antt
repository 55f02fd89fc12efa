use Rattle.std.proofs.Common.{ap, ◌∙◌}
use Rattle.std.specs.Prelude.{option_and_then, slice_get}
use Rattle.flow_graph.proofs.ByTables.{ways_by_graph}
use Rattle.flow_graph.specs.Points.{ways_at}
use Rattle.client_model.specs.Checked.{seen}
use Rattle.client_run.proofs.program.Program.ways.Goals as goal

pub returns : goal.returns
returns c =
    c.ways.ensures
    ∙ (ap (λ g. option_and_then (λ t. slice_get t c.args.point) (slice_get g c.args.procedure)) c.self.invariant
    ∙ (ways_by_graph (seen c.self.inside.client.now) c.args.procedure c.args.point
    ∙ ap (λ d. ways_at (seen d) c.args.procedure c.args.point) c.self.view_is))
