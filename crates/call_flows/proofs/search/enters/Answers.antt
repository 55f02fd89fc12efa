use Rattle.call_flows.proofs.Matches.{entered_so}
use Rattle.call_flows.specs.Told.{call_told}
use Rattle.client_facts.specs.Held.{setting as told}
use Rattle.call_flows.proofs.search.enters.Goals as goal

pub returns : goal.returns
returns c =
    entered_so (told c.args.setting.now) c.args.site.now.procedure c.args.site.now.point (call_told c.args.site.now) c.can_be_met.result
    c.no_needs-needs.result c.need_facts.new.needs c.args.before.now c.args.entry.now c.can_be_met.ensures c.no_needs-needs.ensures c.in_ok-need_facts.ensures (c.is_fact.ensures.stands c.if-not-is_fact.false)
