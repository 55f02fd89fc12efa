use Rattle.std.proofs.Common.{◌≡◌, drop, map}
use Rattle.easl_model.specs.{condition_of, conditions}
use Rattle.alias_cases.specs.Short as short
use Rattle.alias_cases.proofs.clauses.+short.Given as goal

abbrev pub invariant-are_short-each : goal.invariant-are_short-each
invariant-are_short-each l =
    short.are_short (conditions (map condition_of (drop l.test-index l.tests)))
    ≡ short.are_short (conditions (map condition_of l.tests))
