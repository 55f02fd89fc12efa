use Rattle.std.proofs.Common.{rules, subst}
use Rattle.cv_base.specs.Causes.{Rose}
use Rattle.canvas_cli.proofs.Loads.{decided}
use Rattle.canvas_cli.specs.Verdicts.{Decides}
use Rattle.canvas_cli.proofs.canvas.perform_on.Goals as goal

pub returns-in-Ok-clause-answers : goal.returns-in-Ok-clause-answers
returns-in-Ok-clause-answers g c =
    decided c.args.command.now c.args.specification.now c.in-Ok.text.items (g.S.Shelf.held c.args.shelf.now c.args.client.now)
    (Rose (g.S.Shelf.faults c.args.shelf.now c.args.client.now) (g.S.Shelf.faults c.load.new.shelf c.args.client.now)) c.decide.result
    c.in-Ok.ensures.text
    (subst (λ text. Decides c.args.command.now c.args.specification.now text c.decide.result) c.as_slice.ensures.value c.decide.ensures)

pub returns-in-Err-TooLong-clause-answers : goal.returns-in-Err-TooLong-clause-answers
returns-in-Err-TooLong-clause-answers g c = c.in-Err-TooLong.ensures.too_long (search rules)
