use Rattle.std.proofs.Common.{arith, option_map}
use Rattle.client_headers.proofs.Duplicates.{second_more}
use Rattle.client_headers.proofs.seconds.second_statics.Goals as goal
use Rattle.client_model.specs.declared.tree.Static.{Static}
use Rattle.client_values.specs.ToldFaults.{fault_told}

pub each-preserved : goal.each-preserved
each-preserved c =
    second_more (λ (x : Static). x.name) c.args.statics.now c.each.item-index c.item-item.result c.each.before c.second_name.new.before
    (option_map fault_told c.each.found) (option_map fault_told c.in_ok-found.found) _
    (omega arith) c.item-item.is c.in_ok-found.ensures.found c.in_ok-found.ensures.behind c.each.invariant
