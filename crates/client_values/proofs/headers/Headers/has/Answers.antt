use Rattle.std.proofs.Common.{ap, ◌∙◌}
use Rattle.std.specs.List.{list_any}
use Rattle.client_model.specs.Lookups.{is_same}
use Rattle.client_values.proofs.FirstNamed.{some_header}
use Rattle.client_values.proofs.headers.Headers.has.Goals as goal

pub returns : goal.returns
returns c =
    let s = c.self.inside in
    c.is_some.ensures ∙ some_header c.args.name.now s.headers s.names c.first.result c.self.invariant c.first.ensures.position
    ∙ ap (list_any (λ h. is_same h.name c.args.name.now)) c.self.view_is
