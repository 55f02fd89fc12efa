use Rattle.std.proofs.Common.{◌≡◌, ◌++◌, drop}
use Rattle.std.specs.List.{filter}
use Rattle.std.specs.Prelude.{◌||◌}
use Rattle.easl_model.specs.{is_unset}
use Rattle.easl_bodies.proofs.context.unset_in_either.Given as goal

abbrev pub invariant-each : goal.invariant-each
invariant-each l =
    l.left ++ filter (λ p. is_unset l.one p || is_unset l.other p) (drop l.position-index l.positions)
    ≡ filter (λ p. is_unset l.one p || is_unset l.other p) l.positions
