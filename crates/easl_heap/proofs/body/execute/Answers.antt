use Rattle.std.proofs.Common.{arith, ap, length}
use Rattle.easl_heap.specs.{moment, outcome}
use Rattle.easl_heap.proofs.Called.{by_constructor, by_method}
use Rattle.easl_heap.proofs.body.execute.Goals as goal

pub returns-then-called-clause-body : goal.returns-then-called-clause-body
returns-then-called-clause-body c =
    by_constructor c.args.spec.now c.args.method c.class_count-depth.result
    c.method-called.result.now
    c.args.args.now
    c.args.objects.now.items
    _
    c.method-called.ensures.in_range
    c.method-called.ensures.limits
    c.method-called.ensures.value
    c.requires.args
    c.if-called.true
    c.class_count-depth.ensures.count
    c.construct-result.ensures.gives

pub returns-clause-body : goal.returns-clause-body
returns-clause-body c =
    by_method c.args.spec.now c.args.method c.class_count-depth.result
    c.method-called.result.now
    c.args.args.now
    c.declare_all.new.slots.items
    c.args.objects.now.items
    (moment c.run-steps.new.objects.items c.run-steps.new.slots.items c.run-steps.result)
    (outcome c.returned.new.objects.items c.returned.result.result c.returned.result.steps)
    c.method-called.ensures.in_range
    c.method-called.ensures.limits
    c.method-called.ensures.value
    c.requires.args
    c.if-called.false
    c.class_count-depth.ensures.count
    (λ few. rw c.new-slots.ensures at (c.declare_all.ensures (omega (arith, ap length c.new-slots.ensures))))
    (rw c.as_slice.ensures at c.run-steps.ensures.comes)
    (rw c.as_slice-2.ensures.value at c.returned.ensures.gives)
