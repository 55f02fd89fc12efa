use Rattle.std.proofs.Common.{◌≡◌, ◌++◌, drop}
use Rattle.client_model.specs.Bodies.{params_from}
use Rattle.client_bodies.proofs.starts.variables_of.Given as goal

abbrev pub invariant-each : goal.invariant-each
invariant-each l = l.variables ++ params_from l.spec l.number (drop l.number l.params) ≡ params_from l.spec 0 l.params
