use Rattle.std.proofs.Common.{◌≡◌, drop}
use Rattle.cv_layout.specs.{after_lines}
use Rattle.easl_model.specs.{block_of}
use Rattle.easl_print.specs.Lines as lines
use Rattle.easl_print.proofs.steps.+steps.Given as goal

abbrev pub invariant-block-each : goal.invariant-block-each
invariant-block-each l =
    after_lines l.page (lines.block_lines l.depth (block_of (drop l.item-index l.steps)))
    ≡ after_lines l.fn.page (lines.block_lines l.depth (block_of l.steps))
