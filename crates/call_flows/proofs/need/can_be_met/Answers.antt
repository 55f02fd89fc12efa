use Rattle.client_facts.specs.Held.{setting as told}
use Rattle.call_flows.proofs.Matches.{can_meet}
use Rattle.call_flows.proofs.need.can_be_met.Goals as goal

pub returns-then-not-needs : goal.returns-then-not-needs
returns-then-not-needs c =
    can_meet (told c.args.setting.now) c.args.site.now.procedure c.args.site.now.point c.may_be_given.result c.as_slice.result.now c.args.needs.now
    c.if-not-needs.true c.as_slice.ensures.value c.may_be_given.ensures
