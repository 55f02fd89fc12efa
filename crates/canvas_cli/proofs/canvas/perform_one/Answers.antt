use Rattle.std.proofs.Common.{rules, subst}
use Rattle.cv_base.specs.Causes.{Rose}
use Rattle.canvas_cli.proofs.Loads.{one_answered}
use Rattle.canvas_cli.specs.Verdicts.{DecidesOne}
use Rattle.canvas_cli.proofs.canvas.perform_one.Goals as goal

pub returns-in-Ok : goal.returns-in-Ok
returns-in-Ok g c =
    one_answered (g.S.Shelf.held c.args.shelf.now) (λ name. Rose (g.S.Shelf.faults c.args.shelf.now name) (g.S.Shelf.faults c.load.new.shelf name))
    c.args.single c.args.spec.now c.in-Ok.text.items c.decide_one.result c.in-Ok.ensures.text
    (subst (λ text. DecidesOne c.args.single text c.decide_one.result) c.as_slice.ensures.value c.decide_one.ensures)

pub returns-in-Err-TooLong : goal.returns-in-Err-TooLong
returns-in-Err-TooLong g c = c.in-Err-TooLong.ensures.too_long (search rules)
