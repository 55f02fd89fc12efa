use Rattle.std.proofs.Common.{rules, sym}
use Rattle.canvas_cli.proofs.Letters.{two_words}
use Rattle.canvas_cli.proofs.command.derive_words.Goals as goal

pub returns-then-eq : goal.returns-then-eq
returns-then-eq c =
    two_words c.args.words.now c.command-item.result c.spec-item.result _ _ (search rules) (search rules) c.command-item.is c.spec-item.is
    (search rules) (sym c.as_str-then-eq.ensures.value)
