use Rattle.std.proofs.Common.{ap, ◌∙◌}
use Rattle.easl_heap.specs.{body}
use Rattle.easl_heap.proofs.Calls.{call_full, call_kept}
use Rattle.easl_heap.proofs.heap.Heap.execute_body.Goals as goal

pub returns-clause-kept : goal.returns-clause-kept
returns-clause-kept c =
    call_kept c.args.spec.now c.args.method c.args.args.now c.args.self.now
    c.execute.new.objects.items
    c.execute.result.result
    c.execute.result.steps
    (c.execute.ensures.body
    ∙ ap (body c.args.spec.now c.args.method c.args.args.now) (c.reserve.ensures.items ∙ c.self.view_is))

pub returns-clause-full : goal.returns-clause-full
returns-clause-full c =
    call_full c.args.spec.now c.execute.ensures.checked c.args.method c.args.args.now
    c.args.self.now
    c.execute.new.objects.items
    c.execute.result.result
    c.execute.result.steps
    c.requires.method
    (c.execute.ensures.body
    ∙ ap (body c.args.spec.now c.args.method c.args.args.now) (c.reserve.ensures.items ∙ c.self.view_is))
