use Rattle.std.proofs.Common.{◌≡◌, ◌++◌, drop}
use Rattle.client_bodies.proofs.blocks.numbers_behind.Given as goal

abbrev pub invariant-each : goal.invariant-each
invariant-each l = l.copy ++ drop l.at l.numbers ≡ drop l.first l.numbers
