use Rattle.std.proofs.Common.{◌-◌, arith, sym, ◌∙◌}
use Rattle.std.proofs.lemmas.Bool.{le-ltb}
use Rattle.set_names.proofs.Ascending.{last_begun, none_begun}
use Rattle.set_names.proofs.spans.is_in_ended.Goals as goal

pub returns-then-count-gt0 : goal.returns-then-count-gt0
returns-then-count-gt0 c =
    last_begun c.args.spans.now c.args.point (c.begun-count.result - 1) _ c.requires (omega arith)
    (λ i e before. c.begun-count.ensures.begun i e (omega arith)) (λ i e behind inside. c.begun-count.ensures.later i e (omega arith) inside)

pub returns-else-count-gt0 : goal.returns-else-count-gt0
returns-else-count-gt0 c =
    le-ltb 0 c.begun-count.result (omega arith)
    ∙ sym (none_begun c.args.spans.now c.args.point (λ i e inside. c.begun-count.ensures.later i e (omega arith) inside))
