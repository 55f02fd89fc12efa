use Rattle.std.proofs.Common.{◌≡◌, ◌++◌, drop}
use Rattle.std.specs.List.{filter}
use Rattle.std.specs.Prelude.{not, ◌==◌}
use Rattle.easl_bodies.proofs.context.without.Given as goal

abbrev pub invariant-each : goal.invariant-each
invariant-each l = l.left ++ filter (λ p. not (p == l.position)) (drop l.at-index l.positions) ≡ filter (λ p. not (p == l.position)) l.positions
