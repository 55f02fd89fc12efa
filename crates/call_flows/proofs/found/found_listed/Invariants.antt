use Rattle.std.proofs.Common.{take}
use Rattle.call_flows.specs.Found.{Finds, IsListed}
use Rattle.call_flows.specs.Search.{IsWanted}
use Rattle.client_facts.specs.Held.{setting as told}
use Rattle.call_flows.proofs.found.found_listed.Given as goal

abbrev pub invariant-each : goal.invariant-each
invariant-each l = Finds (IsWanted (told l.setting) l.site l.wanted) (IsListed l.family (take l.codes-index l.lists)) l.facts
