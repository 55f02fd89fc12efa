use Rattle.std.proofs.Common.{◌+◌, refl}
use Rattle.client_facts.specs.NameLists.{lists_in}
use Rattle.client_facts.proofs.ListedNames.{one_more}
use Rattle.client_model.specs.Codes.{static_code}
use Rattle.client_facts.proofs.names.all_statics.Goals as goal

pub each-preserved : goal.each-preserved
each-preserved c =
    one_more static_code c.client-client.result.now.statics c.each.number (c.each.number + 1) c.in_ok-code.code c.static_class.result
    (lists_in c.each.lists.items) (lists_in c.add.new.lists.items) refl c.static_class.ensures c.in_ok-code.ensures c.in_ok-add.ensures c.each.invariant
