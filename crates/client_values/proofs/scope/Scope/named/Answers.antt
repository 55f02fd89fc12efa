use Rattle.std.proofs.Common.{ap, sym, ◌∙◌}
use Rattle.std.specs.Prelude.{find, option_and_then, slice_get}
use Rattle.client_model.specs.Lookups.{is_same}
use Rattle.client_values.proofs.FirstNamed.{variable_at}
use Rattle.client_values.proofs.scope.Scope.named.Goals as goal

pub returns-in-Some : goal.returns-in-Some
returns-in-Some c =
    let s = c.self.inside in
    c.get.ensures.value ∙ sym (ap (option_and_then (slice_get s.variables)) c.in-Some.is)
    ∙ sym (variable_at c.args.name.now s.variables s.names c.first.result c.self.invariant c.first.ensures.position)
    ∙ ap (find (λ v. is_same v.name c.args.name.now)) c.self.view_is

pub returns-in-None : goal.returns-in-None
returns-in-None c =
    let s = c.self.inside in
    sym (ap (option_and_then (slice_get s.variables)) c.in-None.is)
    ∙ sym (variable_at c.args.name.now s.variables s.names c.first.result c.self.invariant c.first.ensures.position)
    ∙ ap (find (λ v. is_same v.name c.args.name.now)) c.self.view_is
