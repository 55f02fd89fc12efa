use Rattle.std.proofs.Common.{arith, length, ◌≤◌}
use Rattle.client_points.proofs.Adding.{all_taken, next_taken}
use Rattle.client_model.specs.Points.{argument_of}
use Rattle.client_points.proofs.words.add_arguments.Goals as goal

pub each-preserved : goal.each-preserved
each-preserved c d knows =
    next_taken (argument_of c.args.setting.now d) c.args.words.now c.each.word-index c.word-item.result c.argument_of.result c.each.args c.push.new.self _
    c.each-test.true c.word-item.is (c.argument_of.ensures d knows) c.in_ok-push.ensures.ok (c.each.invariant d knows)

pub returns : goal.returns
returns c d knows =
    let few : length c.args.words.now ≤ c.each.word-index = omega (arith, c.each-test.false) in
    all_taken (argument_of c.args.setting.now d) c.args.words.now c.each.word-index c.each.args _ few (c.each.invariant d knows)
