use Rattle.std.proofs.Common.{◌∙◌}
use Rattle.access_paths.proofs.Leasts.{least_of_more}
use Rattle.access_paths.proofs.family.least.Goals as goal

pub each-preserved : goal.each-preserved
each-preserved c =
    least_of_more c.args.cube.now c.args.classes.now _ _ _ _ _ _ c.each-test.true c.args-item.is c.each.invariant c.in_ok-other.ensures.instance
    (c.in_ok-other.ensures.arguments ∙ c.as_slice.ensures) c.lesser-least.ensures
