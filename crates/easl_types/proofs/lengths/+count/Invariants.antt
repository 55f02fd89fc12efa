use Rattle.std.proofs.Common.{◌≡◌, ◌+◌, drop}
use Rattle.easl_model.specs.{statements_of, total_count}
use Rattle.easl_types.specs.Counts.{count_at, cut}
use Rattle.easl_types.proofs.lengths.+count.Given as goal

abbrev pub invariant-count_of_acts-each : goal.invariant-count_of_acts-each
invariant-count_of_acts-each l = record {
  few : l.count ≡ cut l.count;
  left : cut (l.count + total_count (count_at l.counts) (statements_of (drop l.act-index l.acts))) ≡ cut (total_count (count_at l.counts) (statements_of l.acts));
}
