use Rattle.std.proofs.Common.{take}
use Rattle.client_facts.specs.Held.{setting}
use Rattle.tabulation.specs.Extended.{IsOfOne}
use Rattle.tabulation.specs.Reached.{IsMet, IsMetAt, IsReached}
use Rattle.tabulation.specs.Successors.{IsReturned}
use Rattle.tabulation.proofs.returning.add_from_facts.Given as goal

abbrev pub invariant-each : goal.invariant-each
invariant-each l =
    IsReached (IsOfOne (IsMetAt (setting l.boolean) l.edge l.exits l.edges l.callee) (take l.fact-index l.facts))
    (IsMet (IsReturned (setting l.boolean) l.edge) l.exits l.edges) l.fn.found.items l.found.items
