use Rattle.std.proofs.Common.{◌≡◌}
use Rattle.easl_types.specs.Calls.{row_of}
use Rattle.easl_types.proofs.cycles.row_of.Given as goal

abbrev pub invariant-each : goal.invariant-each
invariant-each l = l.row ≡ row_of l.calls l.other l._round
