use Rattle.std.proofs.Common.{arith}
use Rattle.easl_model.specs.declared.tree.Param.{Param}
use Rattle.easl_types.proofs.Seconds.{second_more}
use Rattle.easl_types.proofs.headers.second_params.Goals as goal

pub each-preserved : goal.each-preserved
each-preserved c =
    second_more (λ (x : Param). x.name) c.each.found c.in_ok-found.found _ c.each.before c.second_name.new.before c.args.params.now c.each.param-index c.param-item.result
    (omega arith) c.param-item.is c.in_ok-found.ensures.found c.in_ok-found.ensures.behind c.each.invariant
