use Rattle.std.proofs.Common.{take}
use Rattle.tabulation.specs.Indexed.{IsNoted, IsOfFacts}
use Rattle.tabulation.proofs.index.add_facts.Given as goal

abbrev pub invariant-each : goal.invariant-each
invariant-each l = IsNoted (IsOfFacts l.callee (take l.fact-index l.facts)) l.at l.fn.callers l.callers
