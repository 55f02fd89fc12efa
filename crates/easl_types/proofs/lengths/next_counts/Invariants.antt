use Rattle.std.proofs.Common.{◌≡◌, take, map}
use Rattle.easl_model.specs.{body_of, total_count}
use Rattle.easl_types.specs.Counts.{count_at, cut}
use Rattle.easl_types.proofs.lengths.next_counts.Given as goal

abbrev pub invariant-each : goal.invariant-each
invariant-each l =
    l.next ≡ map (λ c. cut (total_count (count_at l.counts) (body_of (record { classes = l.classes; methods = l.methods }) c.constructor))) (take l.class-index l.classes)
