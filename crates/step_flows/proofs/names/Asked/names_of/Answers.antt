use Rattle.step_flows.proofs.Zips.{AllZip-at, AllZip-pushed}
use Rattle.step_flows.proofs.names.Asked.names_of.Goals as goal

pub returns-in_default : goal.returns-in_default
returns-in_default c = λ names h. c.in_default.ensures _ (AllZip-at _ _ _ c.each.var-index _ 0 h c.each-test.true)

pub each-preserved : goal.each-preserved
each-preserved c = AllZip-pushed _ _ _ _ c.each.var-index _ _ c.in_ok-push.ensures.ok c.each-test.true c.each.invariant c.in-Some.ensures
