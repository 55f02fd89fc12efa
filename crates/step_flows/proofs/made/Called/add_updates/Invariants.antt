use Rattle.std.proofs.Common.{take}
use Rattle.client_facts.specs.Held.{setting}
use Rattle.step_flows.specs.Adding.{Adds, IsBySome}
use Rattle.step_flows.specs.Steps.{IsMadeBy}
use Rattle.step_flows.proofs.made.Called.add_updates.Given as goal

abbrev pub invariant-each : goal.invariant-each
invariant-each l = Adds (IsBySome (IsMadeBy (setting l.self.next.now.setting.now) l.self.next.now.procedure l.self.next.now.point l.self.target
    l.self.asked.method.now l.self.asked.site.now l.self.fact.now) (take l.update-index l.updates)) l.initial.facts l.facts
