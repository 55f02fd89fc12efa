use Rattle.std.proofs.Common.{◌≡◌, ℕ, List, Contains, take}
use Rattle.client_facts.specs.Flows.{copied}
use Rattle.step_flows.proofs.copies.copied_lists.Given as goal

abbrev pub invariant-each : goal.invariant-each
invariant-each l = (args : List ℕ) → copied l.target l.source args ≡ l.before → Contains l.lists.items (take l.code-index args)
