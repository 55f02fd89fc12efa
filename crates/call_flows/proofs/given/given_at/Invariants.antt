use Rattle.call_flows.proofs.given.given_at.Given as goal

abbrev pub invariant-each : goal.invariant-each
invariant-each l = Unit {0}
