use Rattle.std.proofs.Common.{◌≡◌, map, take}
use Rattle.client_model.specs.Settings.{kind_of}
use Rattle.client_values.specs.ToldKinds.{kind_told}
use Rattle.client_bodies.proofs.tables.kinds_of.Given as goal

abbrev pub invariant-each : goal.invariant-each
invariant-each l = map kind_told l.kinds ≡ map (λ p. kind_of l.spec p.sort) (take l.param-index l.params)
