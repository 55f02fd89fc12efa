use Rattle.std.proofs.Common.{ℕ, List, Contains, take}
use Rattle.std.specs.List.{AllZip}
use Rattle.client_facts.specs.Held.{setting}
use Rattle.client_facts.specs.Names.{IsNameAt}
use Rattle.step_flows.specs.Lists.{AreRight}
use Rattle.step_flows.proofs.made.Made.right_lists.Given as goal

abbrev pub invariant-each : goal.invariant-each
invariant-each l = (args : List ℕ) → AreRight l.self.target l.self.asked.results l.self.asked.method.now l.self.asked.site.now l.vars l.held args
    → AllZip (IsNameAt (setting l.self.next.now.setting.now) l.self.next.now.procedure l.self.next.now.point) l.classes args
    → Contains l.lists.items (take l.position args)
