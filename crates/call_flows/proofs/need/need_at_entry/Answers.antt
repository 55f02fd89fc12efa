use Rattle.call_flows.proofs.Needs.{stands_by}
use Rattle.call_flows.specs.Told.{call_told}
use Rattle.call_flows.proofs.need.need_at_entry.Goals as goal

pub returns : goal.returns
returns c = stands_by _ c.args.class c.args.outer c.args.inner (call_told c.args.site.now) _ _ c.name_of.ensures c.need_to_stand.ensures
