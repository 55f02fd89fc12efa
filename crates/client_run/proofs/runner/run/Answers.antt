use Rattle.std.proofs.Common.{All, subst, sym}
use Rattle.client_run.proofs.Fitted.{fitting_agreed, fitting_calls}
use Rattle.client_run.proofs.There.{answers_there}
use Rattle.client_run.specs.Answers.{Answers}
use Rattle.client_run.specs.Fitting.{CallFits}
use Rattle.client_run.specs.Graph.{AreAgreed}
use Rattle.client_model.specs.Program as told
use Rattle.client_model.specs.Checked.{seen}
use Rattle.client_run.proofs.runner.run.Goals as goal

pub run_within-requires-clause-calls : goal.run_within-requires-clause-calls
run_within-requires-clause-calls c =
    let fit = λ (p : told.ClientForm). All (CallFits c.args.spec.now) p.calls in
    subst fit (sym c.in-Ok.ensures) (fitting_calls c.args.spec.now c.args.client.now c.is_kept.ensures.checked c.requires)

pub run_within-requires-clause-agreed : goal.run_within-requires-clause-agreed
run_within-requires-clause-agreed c =
    let agreed = λ (p : told.ClientForm). AreAgreed (seen p) in
    subst agreed (sym c.in-Ok.ensures) (fitting_agreed c.args.spec.now c.args.client.now c.requires)

pub returns-clause-call : goal.returns-clause-call
returns-clause-call c =
    let answers = λ (p : told.ClientForm). Answers c.args.spec.now (seen p) c.args.choices.now 10000000 c.run_within.result in
    answers_there c.args.spec.now (seen c.args.client.now) c.args.choices.now 10000000 c.run_within.result
    (fitting_agreed c.args.spec.now c.args.client.now c.requires) (subst answers c.in-Ok.ensures c.run_within.ensures)
