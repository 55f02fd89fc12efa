use Rattle.std.proofs.Common.{◌≡◌}
use Rattle.std.specs.Prelude.{replicate}
use Rattle.easl_heap.proofs.object.Object.fresh.Given as goal

abbrev pub invariant-each : goal.invariant-each
invariant-each l = l.fields.items ≡ replicate l.counter 0
