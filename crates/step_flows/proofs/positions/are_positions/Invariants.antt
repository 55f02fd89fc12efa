use Rattle.std.proofs.Common.{◌≡◌, drop}
use Rattle.client_facts.specs.Flows.{positions}
use Rattle.step_flows.proofs.positions.are_positions.Given as goal

abbrev pub invariant-each : goal.invariant-each
invariant-each l = record {
  on : positions l.target (drop l.code-index l.codes) ≡ l.left → positions l.target l.codes ≡ l.results;
  back : positions l.target l.codes ≡ l.results → positions l.target (drop l.code-index l.codes) ≡ l.left;
}
