use Rattle.std.proofs.Common.{arith}
use Rattle.std.proofs.lemmas.Grind.{common_steps}
use Rattle.cv_base.proofs.Entries.{text_under-raised, Rose-count_under, count_under_later, count_under_others}
use Rattle.cv_base.proofs.mem_shelf.MemShelfShelf.load.Goals as goal

pub returns-in_default-clause-failed : goal.returns-in_default-clause-failed
returns-in_default-clause-failed c = grind (arith, common_steps, Rose-count_under)

pub returns-in_default-clause-held : goal.returns-in_default-clause-held
returns-in_default-clause-held c = λ other. grind (arith, common_steps, text_under-raised)

pub returns-in_default-clause-later : goal.returns-in_default-clause-later
returns-in_default-clause-later c = λ other. grind (arith, common_steps, count_under_later)

pub returns-in_default-clause-others : goal.returns-in_default-clause-others
returns-in_default-clause-others c = λ other told different. grind (arith, common_steps, count_under_others)
