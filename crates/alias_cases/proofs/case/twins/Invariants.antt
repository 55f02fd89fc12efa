use Rattle.std.proofs.Common.{◌≡◌, take}
use Rattle.alias_cases.proofs.case.twins.Given as goal

abbrev pub invariant-each : goal.invariant-each
invariant-each l = l.list ≡ take l.term-index l.terms
