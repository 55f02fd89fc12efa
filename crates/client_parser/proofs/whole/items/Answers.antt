use Rattle.std.proofs.Common.{refl, ap, ◌∙◌}
use Rattle.std.proofs.lemmas.Result.{err_from_is_err_and}
use Rattle.client_parser.specs.Reading.{maybe_item_at}
use Rattle.client_parser.specs.declared.whole.TheConstants.{MOST_BODIES}
use Rattle.cv_read.specs.Read.{Got}
use Rattle.client_parser.proofs.Gathered.{goes_on, ends, fails}
use Rattle.client_parser.proofs.whole.items.Goals as goal

pub each-preserved : goal.each-preserved
each-preserved c =
    goes_on (maybe_item_at c.args.source.text.now MOST_BODIES) _ _ _ _ _ _ c.in-Some.item c.each.invariant
    (c.in_ok-item.ensures.reads ∙ ap (λ f. Got f c.in_ok-item.more.now) c.in-Some.is)
    (c.in_ok-item.ensures.takes (rw c.in-Some.is refl)) c.in_ok-add-in-Some.ensures.ok

pub returns-in-None : goal.returns-in-None
returns-in-None c = ends (maybe_item_at c.args.source.text.now MOST_BODIES) _ _ _ _ _ c.each.invariant
    (c.in_ok-item.ensures.reads ∙ ap (λ f. Got f c.in_ok-item.more.now) c.in-None.is)

pub returns-in_err-item : goal.returns-in_err-item
returns-in_err-item c =
    let p = err_from_is_err_and c.from_residual.result c.from_residual.ensures.1 in
    rw (p.1, p.2) (fails (maybe_item_at c.args.source.text.now MOST_BODIES) c.args.end c.args.tokens.now c.each.rest.now c.each.client _ c.each.invariant
    c.in_err-item.ensures.reads)
