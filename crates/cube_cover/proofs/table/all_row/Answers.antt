use Rattle.cube_cover.proofs.Caring.{named_each}
use Rattle.cube_cover.proofs.table.all_row.Goals as goal

pub returns : goal.returns
returns c = rw (c.deref.ensures.value, c.in_ok-truths.ensures, named_each (λ bs. c.args.truth) c.args.cases.now c.args.care.now) at c.row_of.ensures
