use Rattle.std.proofs.Common.{◌∙◌, ap}
use Rattle.client_facts.proofs.ListedNames.{with_empty}
use Rattle.client_facts.specs.NameLists.{at_class, lists_in}
use Rattle.tabulation.proofs.table.reach.Goals as goal

pub each-preserved : goal.each-preserved
each-preserved c other =
    ap (λ l. at_class (lists_in l) other) c.in_ok-push.ensures.items
    ∙ (with_empty c.each.lists.items c.new.result other c.new.ensures.items ∙ c.each.invariant other)
