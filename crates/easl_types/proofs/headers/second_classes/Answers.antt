use Rattle.std.proofs.Common.{arith}
use Rattle.easl_model.specs.declared.tree.Class.{Class}
use Rattle.easl_types.proofs.Seconds.{second_more}
use Rattle.easl_types.proofs.headers.second_classes.Goals as goal

pub each-preserved : goal.each-preserved
each-preserved c =
    second_more (λ (x : Class). x.name) c.each.found c.in_ok-found.found _ c.each.before c.second_name.new.before c.args.classes.now c.each.class-index c.class-item.result
    (omega arith) c.class-item.is c.in_ok-found.ensures.found c.in_ok-found.ensures.behind c.each.invariant
