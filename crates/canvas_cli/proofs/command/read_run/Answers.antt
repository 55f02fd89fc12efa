use Rattle.std.proofs.Common.{rules}
use Rattle.canvas_cli.proofs.Letters.{is_run}
use Rattle.canvas_cli.proofs.command.read_run.Goals as goal

pub returns-in-Err-clause-memory : goal.returns-in-Err-clause-memory
returns-in-Err-clause-memory c = λ e. is_run c.args.words.now c.in-Some.spec.now c.in-Some.client.now c.in-Some.choices.now (search rules) (search rules)
