use Rattle.std.proofs.Common.{◌≡◌, take, map}
use Rattle.easl_model.specs.{variable_of}
use Rattle.easl_bodies.proofs.context.variables_of.Given as goal

abbrev pub invariant-each : goal.invariant-each
invariant-each l = l.variables ≡ map (variable_of l.spec) (take l.param-index l.params)
