use Rattle.call_flows.proofs.Matches.{returned_so}
use Rattle.call_flows.specs.Told.{call_told}
use Rattle.client_facts.specs.Held.{setting as told}
use Rattle.call_flows.proofs.search.returns.Goals as goal

pub returns : goal.returns
returns c =
    returned_so (told c.args.setting.now) c.args.site.now.procedure c.args.site.now.point (call_told c.args.site.now) c.can_be_met.result
    c.no_needs-needs.result c.need_facts.new.needs c.need_facts-2.new.needs c.args.before.now c.args.entry.now c.args.exit.now c.args.after.now c.args.site.now.next c.can_be_met.ensures c.no_needs-needs.ensures
    c.in_ok-need_facts.ensures c.in_ok-need_facts-2.ensures (c.is_fact.ensures.stands c.if-not-is_fact.false)
