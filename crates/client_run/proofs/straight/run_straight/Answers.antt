use Rattle.std.proofs.Common.{◌∙◌, [], All, Err, ap, arith, subst, sym}
use Rattle.client_run.proofs.Fitted.{fitting_agreed, fitting_calls}
use Rattle.client_run.proofs.Straightness.{never_long, outcome_found}
use Rattle.client_run.specs.Answers.{Answers}
use Rattle.client_run.specs.Straight.{Finds}
use Rattle.client_run.specs.Fitting.{CallFits}
use Rattle.client_run.specs.Graph.{AreAgreed}
use Rattle.client_model.specs.Program as told
use Rattle.client_model.specs.Checked.{seen}
use Rattle.client_run.proofs.straight.run_straight.Goals as goal

pub run_within-requires-clause-calls : goal.run_within-requires-clause-calls
run_within-requires-clause-calls c =
    let fit = λ (p : told.ClientForm). All (CallFits c.args.spec.now) p.calls in
    subst fit (sym c.in_ok-program.ensures) (fitting_calls c.args.spec.now c.args.client.now c.is_kept.ensures.checked c.requires.fits)

pub run_within-requires-clause-agreed : goal.run_within-requires-clause-agreed
run_within-requires-clause-agreed c =
    let agreed = λ (p : told.ClientForm). AreAgreed (seen p) in
    subst agreed (sym c.in_ok-program.ensures) (fitting_agreed c.args.spec.now c.args.client.now c.requires.fits)

pub returns-in-Ok : goal.returns-in-Ok
returns-in-Ok c =
    let form = c.args.spec.now in
    let answers = λ (p : told.ClientForm). Answers form (seen p) [] 4294967295 c.run_within.result in
    let found = outcome_found form c.is_kept.ensures.in_range.limits c.args.client.now c.is_kept-2.ensures.in_range c.requires.fits c.requires.straight
    4294967295 c.run_within.result c.in-Ok.outcome (subst answers c.in_ok-program.ensures c.run_within.ensures) c.in-Ok.is in
    subst (Finds form (seen c.args.client.now)) (sym c.failure_of.ensures) found

pub unreachable-requires : goal.unreachable-requires
unreachable-requires c =
    let form = c.args.spec.now in
    let answers = λ (p : told.ClientForm). Answers form (seen p) [] 4294967295 c.run_within.result in
    never_long form c.is_kept.ensures.in_range.limits c.args.client.now c.is_kept-2.ensures.in_range c.requires.fits c.requires.straight
    4294967295 c.run_within.result (omega arith) (subst answers c.in_ok-program.ensures c.run_within.ensures) (c.in-Err-Long.is ∙ ap Err c.in-Err-Long.field-0-is)
