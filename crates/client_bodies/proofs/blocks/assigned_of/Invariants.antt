use Rattle.std.proofs.Common.{◌≡◌, ◌++◌, drop}
use Rattle.std.specs.Prelude.{◌||◌, filter, not}
use Rattle.set_names.specs.Names.{is_in}
use Rattle.client_bodies.proofs.blocks.assigned_of.Given as goal

abbrev pub invariant-each : goal.invariant-each
invariant-each l = l.both ++ filter (λ k. (l.assigned.everything || not l.goes_on) || is_in l.assigned.names.trail k) (drop l.number-index l.numbers)
    ≡ filter (λ k. (l.assigned.everything || not l.goes_on) || is_in l.assigned.names.trail k) l.numbers
