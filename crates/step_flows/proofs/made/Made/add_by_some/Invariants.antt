use Rattle.std.proofs.Common.{take}
use Rattle.client_facts.specs.Held.{setting}
use Rattle.step_flows.specs.Adding.{Adds, IsBySome}
use Rattle.step_flows.specs.Steps.{IsMade}
use Rattle.step_flows.proofs.made.Made.add_by_some.Given as goal

abbrev pub invariant-each : goal.invariant-each
invariant-each l = Adds (IsBySome (IsMade (setting l.self.next.now.setting.now) l.self.next.now.procedure l.self.next.now.point l.self.target
    l.self.asked.results l.self.asked.method.now l.self.asked.site.now l.self.fact.now l.self.family) (take l.disjunct-index l.disjuncts)) l.initial.facts
    l.facts
