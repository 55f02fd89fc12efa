use Rattle.std.proofs.Common.{rules, sym}
use Rattle.canvas_cli.proofs.Letters.{three_words}
use Rattle.canvas_cli.proofs.command.certify_words.Goals as goal

pub returns-then-eq : goal.returns-then-eq
returns-then-eq c =
    three_words c.args.words.now c.command-item.result c.spec-item.result c.client-item.result _ _ _ (search rules) (search rules) c.command-item.is
    c.spec-item.is c.client-item.is
    (search rules) (sym c.as_str-then-eq.ensures.value) (sym c.as_str-then-eq-2.ensures.value)
