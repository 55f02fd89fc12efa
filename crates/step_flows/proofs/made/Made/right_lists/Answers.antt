use Rattle.std.proofs.Common.{arith}
use Rattle.client_facts.specs.Held.{setting}
use Rattle.client_facts.specs.Names.{IsNameAt}
use Rattle.step_flows.proofs.Choosing.{right_lists-all, right_lists-more}
use Rattle.step_flows.specs.Lists.{AreRight}
use Rattle.step_flows.proofs.made.Made.right_lists.Goals as goal

pub each-preserved : goal.each-preserved
each-preserved c =
    let s = c.args.self.now in
    right_lists-more (AreRight s.target s.asked.results s.asked.method.now s.asked.site.now c.args.vars.now c.args.held.now)
    (IsNameAt (setting s.next.now.setting.now) s.next.now.procedure s.next.now.point)
    c.args.classes.now c.each.position c.each.lists.items c.as_slice.result.now c.in_ok-lists-2.lists.items c.in_ok-names.names.items
    c.as_slice-in-each.result.now c.as_slice.ensures.value
    c.as_slice-in-each.ensures.value c.each-test.true c.each.invariant c.in_ok-lists-2.ensures c.in_ok-names.ensures

pub returns : goal.returns
returns c =
    let s = c.args.self.now in
    right_lists-all (AreRight s.target s.asked.results s.asked.method.now s.asked.site.now c.args.vars.now c.args.held.now)
    (IsNameAt (setting s.next.now.setting.now) s.next.now.procedure s.next.now.point)
    c.args.classes.now c.each.position c.each.lists.items (omega arith) c.each.invariant
