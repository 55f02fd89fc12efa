use Rattle.call_flows.proofs.Needs.{three_never}
use Rattle.call_flows.specs.Needs.{Crosses}
use Rattle.call_flows.specs.Told.{call_told}
use Rattle.call_flows.proofs.need.need_all.Goals as goal

pub returns-then-not-are_as_many : goal.returns-then-not-are_as_many
returns-then-not-are_as_many c = λ x.
    three_never (Crosses c.args.crossing x (call_told c.args.site.now)) _ _ _ c.args.classes.now c.args.outer.now c.args.inner.now c.are_as_many.ensures
    c.if-not-are_as_many.true (c.in_ok-add.ensures x)
