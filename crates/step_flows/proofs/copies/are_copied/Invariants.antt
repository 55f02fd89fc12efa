use Rattle.std.proofs.Common.{◌≡◌, take}
use Rattle.client_facts.specs.Flows.{copied}
use Rattle.step_flows.proofs.copies.are_copied.Given as goal

abbrev pub invariant-each : goal.invariant-each
invariant-each l = copied l.target l.source (take l.number l.args) ≡ take l.number l.before
