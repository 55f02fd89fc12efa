use Rattle.std.proofs.Common.{◌≡◌, take}
use Rattle.easl_types.specs.Calls.{next_row}
use Rattle.easl_types.proofs.cycles.next_row.Given as goal

abbrev pub invariant-each : goal.invariant-each
invariant-each l = l.next ≡ next_row (take l.made-index l.calls) l.other l.row
