use Rattle.std.proofs.Common.{◌≡◌, take}
use Rattle.easl_bodies.proofs.context.copy_of_positions.Given as goal

abbrev pub invariant-each : goal.invariant-each
invariant-each l = l.copy ≡ take l.position-index l.positions
