use Rattle.std.proofs.Common.{ℕ, ◌<◌, ◌≤◌, ◌-◌, get_or, length}
use Rattle.set_names.proofs.spans.begun.Given as goal
use Rattle.set_names.specs.declared.spans.Span.{Span}

abbrev pub invariant-each : goal.invariant-each
invariant-each l = record {
  order : l.low ≤ l.high;
  count : l.high ≤ length l.spans;
  begun : (i : ℕ) (d : Span) → i < l.low → (get_or l.spans i d).first ≤ l.point;
  later : (i : ℕ) (d : Span) → l.high ≤ i → i < length l.spans → l.point < (get_or l.spans i d).first;
}

abbrev pub decreases-each : goal.decreases-each
decreases-each l = l.high - l.low
