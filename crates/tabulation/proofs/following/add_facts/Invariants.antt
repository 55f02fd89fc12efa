use Rattle.std.proofs.Common.{take}
use Rattle.client_facts.specs.Held.{setting}
use Rattle.tabulation.specs.Extended.{IsExtended, IsOfOne}
use Rattle.tabulation.specs.Successors.{IsTo}
use Rattle.tabulation.proofs.following.add_facts.Given as goal

abbrev pub invariant-each : goal.invariant-each
invariant-each l =
    IsExtended (IsOfOne (IsTo (setting l.setting) l.edge l.point) (take l.fact-index l.facts)) l.fn.found.items l.found.items
