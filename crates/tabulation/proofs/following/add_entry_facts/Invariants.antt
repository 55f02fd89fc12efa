use Rattle.std.proofs.Common.{take}
use Rattle.tabulation.specs.Extended.{IsExtended, IsOfOne}
use Rattle.tabulation.specs.Successors.{IsEntry}
use Rattle.tabulation.proofs.following.add_entry_facts.Given as goal

abbrev pub invariant-each : goal.invariant-each
invariant-each l = IsExtended (IsOfOne (IsEntry l.callee) (take l.fact-index l.facts)) l.fn.found.items l.found.items
