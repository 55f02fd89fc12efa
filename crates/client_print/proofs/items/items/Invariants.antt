use Rattle.std.proofs.Common.{◌≡◌, drop}
use Rattle.cv_layout.specs.Page.{after_lines}
use Rattle.client_print.specs.Lines as lines
use Rattle.client_print.proofs.items.items.Given as goal

abbrev pub invariant-each : goal.invariant-each
invariant-each l =
    after_lines l.page (lines.item_lines (drop l.is_static-index l.order) l.left_statics l.left_procedures)
    ≡ after_lines l.fn.page (lines.item_lines l.order l.fn.statics l.fn.procedures)
