use Rattle.std.proofs.Common.{rules, sym, ◌∙◌}
use Rattle.std.proofs.lemmas.Slice.Zip.{zip_end}
use Rattle.alias_cases.proofs.Turns.{led-end}
use Rattle.alias_cases.proofs.fitting.led_to.Goals as goal

pub returns : goal.returns
returns c =
    sym (led-end c.args.blocks.now c.args.own c.args.steps.now c.args.blocks.now _
    (zip_end c.args.steps.now c.args.blocks.now c.each.yielded c.into_iter-step-iterator.result c.each.step-iterator c.next.new.self c.next.result (search rules) (search rules) c.each.yielded_by c.in-None.is c.next.ensures.steps))
    ∙ c.each.invariant
