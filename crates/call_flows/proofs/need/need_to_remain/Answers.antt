use Rattle.std.proofs.Common.{sym, ap}
use Rattle.call_flows.proofs.Needs.{given_by, remains_by, static_need, unfixed}
use Rattle.call_flows.specs.Told.{name_told}
use Rattle.call_flows.proofs.need.need_to_remain.Goals as goal

pub returns-in-Static : goal.returns-in-Static
returns-in-Static c =
    remains_by _ c.args.class c.args.outer c.args.inner _ (name_told c.args.name) (ap name_told (sym c.in-Static.is))
    (static_need _ c.args.class c.args.outer c.args.inner c.need_that.ensures)

pub returns-in-Variable : goal.returns-in-Variable
returns-in-Variable c =
    unfixed _ c.args.class c.args.outer c.args.inner c.args.name c.in-Variable.is
    (given_by _ c.args.class c.args.outer c.args.inner _ _ c.name_of.ensures c.need_to_be_given.ensures)
