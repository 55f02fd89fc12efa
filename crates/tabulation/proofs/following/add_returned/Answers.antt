use Rattle.client_facts.specs.Held.{setting}
use Rattle.tabulation.proofs.Followed.{behind}
use Rattle.tabulation.proofs.following.add_returned.Goals as goal

pub returns : goal.returns
returns c =
    behind (setting c.args.boolean.now) c.args.before.now c.args.exit.now c.args.behind c.in_ok-facts.facts.items c.args.found.now.items
    c.add_facts.new.found.items c.requires.call c.requires.exit c.in_ok-facts.ensures.follow
    (rw (c.as_slice.ensures.value, c.setting.ensures) at c.in_ok-add_facts.ensures)
