use Rattle.client_facts.specs.NameLists.{lists_in}
use Rattle.client_facts.proofs.ListedNames.{added}
use Rattle.client_facts.proofs.names.add.Goals as goal

pub returns : goal.returns
returns c =
    added c.args.kind c.in-Some.class c.args.code (lists_in c.args.lists.now.items) (lists_in c.reach.new.lists.items) (lists_in c.put.new.lists.items)
    c.in-Some.is c.in_ok-reach.ensures.same c.in_ok-put.ensures
