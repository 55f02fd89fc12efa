use Rattle.std.proofs.Common.{◌≡◌, ◌<◌, drop}
use Rattle.std.specs.Prelude.{fold}
use Rattle.client_facts.specs.Counts.{count_instances}
use Rattle.client_facts.specs.Held.{setting}
use Rattle.client_facts.proofs.Counted.{times}
use Rattle.client_facts.proofs.counts.count_instances.Given as goal

abbrev pub invariant-each : goal.invariant-each
invariant-each l = record {
  so : fold (times (setting l.setting) l.procedure) l.count (drop l.class-index l.classes) ≡ count_instances (setting l.setting) l.procedure l.classes;
  some : 0 < l.count;
}
