use Rattle.call_flows.proofs.Behind.{given_there}
use Rattle.call_flows.proofs.given.given_at.Goals as goal

pub returns-then-inner-at : goal.returns-then-inner-at
returns-then-inner-at c = given_there c.args.classes.now c.args.outer.now c.args.inner.now c.args.class c.args.code c.each.at c.each-test.true c.if-classes-at.true c.if-inner-at.true
