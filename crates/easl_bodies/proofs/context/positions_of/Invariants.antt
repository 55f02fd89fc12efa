use Rattle.std.proofs.Common.{◌≡◌}
use Rattle.std.specs.List.{range_with_len}
use Rattle.easl_bodies.proofs.context.positions_of.Given as goal

abbrev pub invariant-each : goal.invariant-each
invariant-each l = l.positions ≡ range_with_len 0 l.position
