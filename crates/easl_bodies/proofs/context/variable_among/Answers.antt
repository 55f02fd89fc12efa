use Rattle.std.proofs.Common.{rules, get_or}
use Rattle.easl_model.specs.{is_same}
use Rattle.easl_model.proofs.Found.{other_is, same_is}
use Rattle.easl_bodies.proofs.Walks.{found_here, passed_over}
use Rattle.easl_bodies.proofs.context.variable_among.Goals as goal

pub returns-then-is_same : goal.returns-then-is_same
returns-then-is_same c =
    let x = c.index-variables-at.result in
    let y = get_or c.args.variables.now c.each.at x in
    found_here (λ y. is_same y.name c.args.name.now) c.args.variables.now c.each.at x _ c.each-test.true c.index-variables-at.is (same_is y.name c.args.name.now (c.is_same.ensures.same (search rules))) c.each.invariant

pub each-preserved : goal.each-preserved
each-preserved c =
    let x = c.index-variables-at.result in
    let y = get_or c.args.variables.now c.each.at x in
    passed_over (λ y. is_same y.name c.args.name.now) c.args.variables.now c.each.at x _ c.each-test.true c.index-variables-at.is (other_is y.name c.args.name.now (c.is_same.ensures.other c.if-is_same.false)) c.each.invariant
