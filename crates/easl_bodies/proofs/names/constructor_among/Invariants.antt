use Rattle.std.proofs.Common.{◌≡◌, drop}
use Rattle.easl_model.specs.{constructor_in}
use Rattle.easl_bodies.proofs.names.constructor_among.Given as goal

abbrev pub invariant-each : goal.invariant-each
invariant-each l = constructor_in (drop l.member-index l.members) ≡ constructor_in l.members
