use Rattle.std.proofs.Common.{rules, ap, sym, ◌∙◌, ◌++◌}
use Rattle.std.proofs.lemmas.Slice.Zip.{zip_end}
use Rattle.alias_cases.proofs.Turns.{open-end}
use Rattle.alias_cases.proofs.fitting.open_blocks.Goals as goal

pub returns : goal.returns
returns c =
    c.in_ok-push-2.ensures.items
    ∙ ap (λ l. c.each.found.items ++ l) (sym (open-end c.args.class c.each.next c.args.classes.now c.args.blocks.now _
    (zip_end c.args.blocks.now c.args.classes.now c.each.yielded c.into_iter-block-iterator.result c.each.block-iterator c.next.new.self c.next.result (search rules) (search rules) c.each.yielded_by c.in-None.is c.next.ensures.steps)))
    ∙ c.each.invariant
