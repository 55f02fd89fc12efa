use Rattle.client_model.specs.Settings.{Variable}
use Rattle.client_values.proofs.FirstNamed.{names_kept}
use Rattle.client_values.proofs.scope.Scope.truncate.Goals as goal

pub invariant_of-self : goal.invariant_of-self
invariant_of-self c =
    let s = c.self.inside in
    names_kept (λ (v : Variable). v.name) s.variables c.cut.new.variables s.names c.truncate.new.self c.args.length c.self.invariant c.cut.ensures c.truncate.ensures
