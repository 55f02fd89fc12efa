use Rattle.std.proofs.Common.{sym, ◌∙◌}
use Rattle.std.specs.Prelude.{◌&&◌, ◌==◌, not}
use Rattle.client_model.specs.Lookups.{is_same}
use Rattle.client_values.proofs.NamesFound.{passed_over}
use Rattle.client_values.proofs.names.method_named.Goals as goal

pub each-preserved : goal.each-preserved
each-preserved c =
    sym (passed_over (λ m. not m.constructor && (m.class == c.args.class) && is_same m.name c.args.name.now) c.args.spec.now.methods c.each.number
    c.method.result.now c.method.ensures.value (sym c.is_named.ensures ∙ c.if-is_named.false))
    ∙ c.each.invariant
