use Rattle.client_facts.specs.Held.{setting}
use Rattle.boolean_client.specs.Bounds.{FirstHaveFew}
use Rattle.boolean_client.proofs.counting.check_counts.Given as goal

abbrev pub invariant-each : goal.invariant-each
invariant-each l = FirstHaveFew (setting l.setting) l.procedure
