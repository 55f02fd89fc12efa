use Rattle.std.proofs.Common.{arith}
use Rattle.easl_heap.specs.{moment, outcome}
use Rattle.easl_heap.proofs.Called.{not_returned}
use Rattle.easl_heap.proofs.body.returned.Goals as goal

pub returns-in_default-clause-gives : goal.returns-in_default-clause-gives
returns-in_default-clause-gives c _ =
    not_returned c.args.spec.now c.args.depth c.args.source.now _
    (moment c.args.objects.now.items c.args.slots.now c.args.steps)
    (outcome c.args.objects.now.items 0 c.args.steps)
    c.in-Some.is
    (omega arith)
