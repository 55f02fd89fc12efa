use Rattle.std.proofs.Common.{refl, ap, ◌∙◌}
use Rattle.cv_read.specs.{Got}
use Rattle.cv_read.proofs.Along.{goes_on}
use Rattle.easl_parser.specs.Reading.{maybe_step_at}
use Rattle.easl_parser.proofs.steps.+steps.Goals as goal

pub steps_within-each-preserved : goal.steps_within-each-preserved
steps_within-each-preserved t c =
    goes_on (maybe_step_at c.args.source.text.now c.args.depth) _ _ _ _ _ c.in-Some.item c.each.invariant
    (c.in_ok-item.ensures.reads ∙ ap (λ f. Got f c.in_ok-item.more.now) c.in-Some.is)
    (c.in_ok-item.ensures.takes (rw c.in-Some.is refl)) c.in_ok-push-in-Some.ensures.ok
