use Rattle.std.proofs.Common.{ap, ◌∙◌}
use Rattle.std.specs.List.{list_any}
use Rattle.client_model.specs.Lookups.{is_same}
use Rattle.client_values.proofs.FirstNamed.{some_variable}
use Rattle.client_values.proofs.scope.Scope.has.Goals as goal

pub returns : goal.returns
returns c =
    let s = c.self.inside in
    c.is_some.ensures ∙ some_variable c.args.name.now s.variables s.names c.first.result c.self.invariant c.first.ensures.position
    ∙ ap (list_any (λ v. is_same v.name c.args.name.now)) c.self.view_is
