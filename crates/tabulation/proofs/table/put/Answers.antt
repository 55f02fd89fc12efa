use Rattle.client_facts.proofs.ListedNames.{put_behind}
use Rattle.tabulation.proofs.table.put.Goals as goal

pub returns : goal.returns
returns c =
    put_behind c.args.lists.now.items c.args.number c.args.place c.index_mut.result.now c.push.new.self c.requires c.index_mut.ensures.value
    c.in_ok-push.ensures.items
