use Rattle.std.proofs.Common.{◌≡◌, ◌≤◌, take}
use Rattle.std.specs.Prelude.{count_by}
use Rattle.client_facts.specs.Counts.{is_of}
use Rattle.client_facts.proofs.counts.count_statics.Given as goal

abbrev pub invariant-each : goal.invariant-each
invariant-each l = record {
  so : l.count ≡ count_by (is_of l.class) (take l.number l.client.statics);
  few : l.count ≤ l.number;
}
