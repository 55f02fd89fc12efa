use Rattle.std.proofs.Common.{sym, ap}
use Rattle.call_flows.proofs.Needs.{both_ways, stands_by, static_need}
use Rattle.call_flows.specs.Told.{call_told, name_told}
use Rattle.call_flows.proofs.need.need_to_stand.Goals as goal

pub returns-in-Static : goal.returns-in-Static
returns-in-Static c =
    stands_by _ c.args.class c.args.outer c.args.inner (call_told c.args.site.now) _ (name_told c.args.name) (ap name_told (sym c.in-Static.is))
    (static_need _ c.args.class c.args.outer c.args.inner c.need_that.ensures)

pub returns-in-Variable : goal.returns-in-Variable
returns-in-Variable c =
    stands_by _ c.args.class c.args.outer c.args.inner (call_told c.args.site.now) _ (name_told c.args.name) (ap name_told (sym c.in-Variable.is))
    (λ x. both_ways (c.need_that-in-Variable.ensures x) c.is_argument.ensures)
