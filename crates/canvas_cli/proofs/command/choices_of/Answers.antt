use Rattle.std.proofs.Common.{◌∙◌}
use Rattle.canvas_cli.proofs.Letters.{written}
use Rattle.canvas_cli.proofs.command.choices_of.Goals as goal

pub returns-in-Ok : goal.returns-in-Ok
returns-in-Ok c = written c.args.word.now c.from_vec.result c.requires (c.from_vec.ensures ∙ c.in-Ok.ensures)
