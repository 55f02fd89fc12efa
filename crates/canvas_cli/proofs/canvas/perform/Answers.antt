use Rattle.std.proofs.Common.{rules, subst}
use Rattle.cv_base.specs.Causes.{Rose}
use Rattle.canvas_cli.specs.Answers.{ClientAnswers}
use Rattle.canvas_cli.proofs.Loads.{answered}
use Rattle.canvas_cli.proofs.canvas.perform.Goals as goal

pub returns-in-Ok : goal.returns-in-Ok
returns-in-Ok g c =
    let held = g.S.Shelf.held in
    let faults = g.S.Shelf.faults in
    let old = c.args.shelf.now in
    let mid = c.load.new.shelf in
    let command = c.args.command.now in
    let client = c.args.client.now in
    answered (held old) (held mid) (faults old) (faults mid) (faults c.perform_on.new.shelf) command c.args.spec.now client
    c.in-Ok.text.items c.perform_on.result c.in-Ok.ensures.text (c.load.ensures.held client) (c.load.ensures.later client)
    (subst (λ text. ClientAnswers command text (held mid client) (Rose (faults mid client) (faults c.perform_on.new.shelf client)) c.perform_on.result)
    c.as_slice.ensures.value c.perform_on.ensures.answers)

pub returns-in-Err-TooLong : goal.returns-in-Err-TooLong
returns-in-Err-TooLong g c = c.in-Err-TooLong.ensures.too_long (search rules)
