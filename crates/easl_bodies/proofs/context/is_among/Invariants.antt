use Rattle.std.proofs.Common.{◌≡◌, drop}
use Rattle.std.specs.List.{list_any}
use Rattle.std.specs.Prelude.{◌==◌}
use Rattle.easl_bodies.proofs.context.is_among.Given as goal

abbrev pub invariant-each : goal.invariant-each
invariant-each l = list_any (λ p. p == l.position) (drop l.at-index l.positions) ≡ list_any (λ p. p == l.position) l.positions
