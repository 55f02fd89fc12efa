use Rattle.std.proofs.Common.{take}
use Rattle.client_facts.specs.Held.{setting}
use Rattle.tabulation.specs.Extended.{IsExtended, IsOfOne}
use Rattle.tabulation.specs.Reached.{IsFromPlace}
use Rattle.tabulation.specs.Successors.{IsReturned}
use Rattle.tabulation.proofs.returning.add_exits.Given as goal

abbrev pub invariant-each : goal.invariant-each
invariant-each l =
    IsExtended (IsOfOne (IsFromPlace (IsReturned (setting l.boolean) l.edge) l.edges) (take l.place-index l.places)) l.fn.found.items l.found.items
