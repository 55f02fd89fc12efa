use Rattle.std.proofs.Common.{sym}
use Rattle.call_flows.proofs.Needs.{crosses_by}
use Rattle.call_flows.specs.Told.{call_told}
use Rattle.call_flows.proofs.need.need_on.Goals as goal

pub returns-in-Entry : goal.returns-in-Entry
returns-in-Entry c =
    crosses_by _ c.args.class c.args.outer c.args.inner (call_told c.args.site.now) _ c.args.crossing (sym c.in-Entry.is) c.need_at_entry.ensures

pub returns-in-Return : goal.returns-in-Return
returns-in-Return c =
    crosses_by _ c.args.class c.args.outer c.args.inner (call_told c.args.site.now) _ c.args.crossing (sym c.in-Return.is) c.need_at_return.ensures
