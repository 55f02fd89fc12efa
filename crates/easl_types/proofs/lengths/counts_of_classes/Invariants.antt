use Rattle.std.proofs.Common.{◌≡◌}
use Rattle.easl_types.specs.Counts.{counts_after}
use Rattle.easl_types.proofs.lengths.counts_of_classes.Given as goal

abbrev pub invariant-each : goal.invariant-each
invariant-each l = l.counts ≡ counts_after (record { classes = l.classes; methods = l.methods }) l._round
