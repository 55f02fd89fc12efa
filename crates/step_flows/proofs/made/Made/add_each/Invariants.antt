use Rattle.std.proofs.Common.{take}
use Rattle.client_facts.specs.Held.{setting}
use Rattle.step_flows.specs.Adding.{Adds, IsBySome}
use Rattle.step_flows.specs.Steps.{IsMadeAt}
use Rattle.step_flows.proofs.made.Made.add_each.Given as goal

abbrev pub invariant-each : goal.invariant-each
invariant-each l = Adds (IsBySome (IsMadeAt (setting l.self.next.now.setting.now) l.self.next.now.procedure l.self.next.now.point l.self.target
    l.self.asked.results l.self.asked.method.now l.self.asked.site.now l.self.fact.now l.self.family l.disjunct) (take l.args-index l.lists))
    l.initial.facts l.facts
