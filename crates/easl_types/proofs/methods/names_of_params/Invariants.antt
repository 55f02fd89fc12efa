use Rattle.std.proofs.Common.{◌≡◌, take, map}
use Rattle.easl_types.proofs.methods.names_of_params.Given as goal

abbrev pub invariant-each : goal.invariant-each
invariant-each l = l.names ≡ map (λ p. p.name.name) (take l.param-index l.params)
