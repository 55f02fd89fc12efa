use Rattle.std.proofs.Common.{◌≡◌, []}
use Rattle.std.specs.List.{range_with_len}
use Rattle.std.specs.Prelude.{None}
use Rattle.client_bodies.proofs.starts.names_at_entry.Given as goal

abbrev pub invariant-each : goal.invariant-each
invariant-each l = l.names ≡ record { statics = l.statics; variables = l.number; before = []; trail = range_with_len 0 l.number; left = None }
