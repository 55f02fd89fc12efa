use Rattle.std.proofs.Common.{rules}
use Rattle.client_values.proofs.NamesFound.{class_here, class_passed}
use Rattle.client_values.proofs.names.class_named.Goals as goal

pub returns-then-is_same-clause-class : goal.returns-then-is_same-clause-class
returns-then-is_same-clause-class c =
    class_here c.args.spec.now c.each.class c.args.name.now c.class_name.result.now c.class_name.ensures (c.is_same.ensures.same (search rules)) c.each.invariant

pub each-preserved : goal.each-preserved
each-preserved c =
    class_passed c.args.spec.now c.each.class c.args.name.now c.class_name.result.now c.class_name.ensures (c.is_same.ensures.other c.if-is_same.false) c.each.invariant
