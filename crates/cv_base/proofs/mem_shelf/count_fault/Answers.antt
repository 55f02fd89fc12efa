use Rattle.std.proofs.Common.{arith}
use Rattle.std.proofs.lemmas.Grind.{common_steps}
use Rattle.cv_base.proofs.Entries.{raised_at}
use Rattle.cv_base.proofs.mem_shelf.count_fault.Goals as goal

pub returns-then-eq-clause-files : goal.returns-then-eq-clause-files
returns-then-eq-clause-files c = grind (arith, common_steps, raised_at c.loop-entry.files c.args.name.now c.loop-entry.entry-index c.entry-item.result)
