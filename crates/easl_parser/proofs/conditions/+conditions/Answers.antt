use Rattle.std.proofs.Common.{refl, ap, ◌∙◌}
use Rattle.cv_read.specs.{Got}
use Rattle.cv_read.proofs.Along.{goes_on}
use Rattle.easl_parser.specs.Reading.{atom_at, all_at, and_by, or_by}
use Rattle.easl_parser.proofs.conditions.+conditions.Goals as goal

pub and_atoms-each-preserved : goal.and_atoms-each-preserved
and_atoms-each-preserved t c =
    goes_on (and_by (atom_at c.args.source.text.now c.args.depth)) _ _ _ _ _ c.in-Some.item c.each.invariant
    (c.in_ok-item.ensures.reads ∙ ap (λ f. Got f c.in_ok-item.more.now) c.in-Some.is)
    (c.in_ok-item.ensures.takes (rw c.in-Some.is refl)) c.in_ok-push-in-Some.ensures.ok

pub or_alls-each-preserved : goal.or_alls-each-preserved
or_alls-each-preserved t c =
    goes_on (or_by (all_at c.args.source.text.now c.args.depth)) _ _ _ _ _ c.in-Some.item c.each.invariant
    (c.in_ok-item.ensures.reads ∙ ap (λ f. Got f c.in_ok-item.more.now) c.in-Some.is)
    (c.in_ok-item.ensures.takes (rw c.in-Some.is refl)) c.in_ok-push-in-Some.ensures.ok
