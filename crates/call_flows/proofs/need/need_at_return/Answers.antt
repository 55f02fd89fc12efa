use Rattle.std.proofs.Common.{sym, ◌∙◌}
use Rattle.call_flows.proofs.Needs.{both_ways, remains_by, returns_by, tested}
use Rattle.call_flows.proofs.need.need_at_return.Goals as goal

pub returns-then-is_target : goal.returns-then-is_target
returns-then-is_target c =
    returns_by _ c.args.class c.args.outer c.args.inner _ _ (sym c.if-is_target.true ∙ c.is_target.ensures)
    (λ x. both_ways (c.need_that.ensures x) (tested c.args.inner 3))

pub returns-else-is_target : goal.returns-else-is_target
returns-else-is_target c =
    returns_by _ c.args.class c.args.outer c.args.inner _ _ (sym c.if-is_target.false ∙ c.is_target.ensures)
    (remains_by _ c.args.class c.args.outer c.args.inner _ _ c.name_of.ensures c.need_to_remain.ensures)
