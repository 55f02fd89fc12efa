use Rattle.easl_print.proofs.Whole as whole
use Rattle.easl_print.proofs.laws.specs_are_read_again.Goals as goal

pub returns : goal.returns
returns c = whole.specs_are_read_again
