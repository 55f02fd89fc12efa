use Rattle.client_facts.specs.Held.{setting}
use Rattle.tabulation.proofs.Reached.{exits_all, exits_none}
use Rattle.tabulation.proofs.returning.add_from_exits.Goals as goal

pub returns-in_ok-add_from_facts-in-Some : goal.returns-in_ok-add_from_facts-in-Some
returns-in_ok-add_from_facts-in-Some c =
    exits_all (setting c.args.boolean.now) c.args.edge.now c.args.exits.now c.args.edges.now c.in-Some.callee c.in-Some.field-0-1
    c.in_ok-facts-in-Some.facts.items c.args.found.now.items c.add_from_facts.new.found.items (rw c.setting.ensures at c.in-Some.ensures)
    c.in_ok-facts-in-Some.ensures.follow (rw c.as_slice.ensures.value at c.in_ok-add_from_facts-in-Some.ensures)

pub returns-in-None : goal.returns-in-None
returns-in-None c =
    exits_none (setting c.args.boolean.now) c.args.edge.now c.args.exits.now c.args.edges.now c.args.found.now.items
    (rw c.setting.ensures at c.in-None.ensures)
