use Rattle.std.proofs.Common.{◌≡◌, drop}
use Rattle.cv_layout.specs.Page.{after_lines}
use Rattle.client_print.specs.Lines as lines
use Rattle.client_print.proofs.statements.+statements.Given as goal

abbrev pub invariant-block-each : goal.invariant-block-each
invariant-block-each l =
    after_lines l.page (lines.block_lines l.depth (lines.block_of (drop l.item-index l.items)))
    ≡ after_lines l.fn.page (lines.block_lines l.depth (lines.block_of l.items))
