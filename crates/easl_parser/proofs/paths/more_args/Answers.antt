use Rattle.std.proofs.Common.{refl, ap, ◌∙◌}
use Rattle.cv_read.specs.{Got, next_at}
use Rattle.cv_read.proofs.Along.{goes_on}
use Rattle.easl_parser.specs.Reading.{arg_at}
use Rattle.easl_parser.proofs.paths.more_args.Goals as goal

pub each-preserved : goal.each-preserved
each-preserved c =
    goes_on (next_at (arg_at c.args.source.text.now)) _ _ _ _ _ c.in-Some.item c.each.invariant
    (c.in_ok-item.ensures.reads ∙ ap (λ f. Got f c.in_ok-item.more.now) c.in-Some.is)
    (c.in_ok-item.ensures.takes (rw c.in-Some.is refl)) c.in_ok-push-in-Some.ensures.ok
