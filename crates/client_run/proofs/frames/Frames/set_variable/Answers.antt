use Rattle.std.proofs.Common.{ap, reverse, ◌∙◌}
use Rattle.std.specs.Prelude.{slice_set}
use Rattle.client_run.proofs.Stacked.{put_last}
use Rattle.client_run.specs.Places.{Frames}
use Rattle.client_run.proofs.frames.Frames.set_variable.Goals as goal

pub returns-then-number-len : goal.returns-then-number-len
returns-then-number-len c =
    let put = λ (f : Frames). record f { variables = slice_set f.variables c.args.number c.args.object } in
    put_last (reverse c.self.inside.callers.items) c.self.inside.base c.self.inside.result c.args.number c.args.object c.self.inside.variables.items
    ∙ ap put c.self.view_is
