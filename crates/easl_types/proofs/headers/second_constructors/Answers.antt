use Rattle.std.proofs.Common.{ap, sym}
use Rattle.easl_model.specs.{constructors_in, first_with}
use Rattle.easl_model.specs.Faults.{comes_before}
use Rattle.easl_types.proofs.Seconds.{behind_none}
use Rattle.easl_types.proofs.headers.second_constructors.Goals as goal

pub each-init : goal.each-init
each-init c = ap (first_with comes_before c.args.start) (sym (behind_none (constructors_in c.args.members.now)))
