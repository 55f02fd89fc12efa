use Rattle.std.proofs.Common.{sym, subst}
use Rattle.std.proofs.lemmas.Result.{err_from_is_err_and}
use Rattle.cv_lex.specs.Reading.{Leads}
use Rattle.cv_lex.proofs.Along.{leads_more, whole, refused}
use Rattle.cv_lex.proofs.scan.cut.Goals as goal

pub returns-in_err-spot : goal.returns-in_err-spot
returns-in_err-spot c =
    let p = err_from_is_err_and c.from_residual.result c.from_residual.ensures.1 in
    let loop = c.loop-spot in
    rw (p.1, p.2) (refused c.args.characters.now loop.list loop.spot c.in_err-spot.field-0.0 loop.invariant.spot loop.invariant.leads c.loop-spot-test.true c.in_err-spot.ensures.refused)

pub loop-spot-preserved : goal.loop-spot-preserved
loop-spot-preserved c =
    let found = c.in_ok-spot.ensures.found in
    record {
      spot = c.in_ok-spot.ensures.spot;
      leads = subst (λ list. Leads c.args.characters.now 0 list c.in_ok-spot.spot.at) (sym found.1) (leads_more c.args.characters.now 0 c.loop-spot.spot.at c.in_ok-spot.spot.at c.loop-spot.list found.0 c.loop-spot.invariant.leads found.2);
    }

pub returns : goal.returns
returns c =
    let loop = c.loop-spot in
    whole c.args.characters.now loop.list loop.spot loop.invariant.spot loop.invariant.leads c.loop-spot-test.false
