use Rattle.client_facts.specs.Held.{setting}
use Rattle.tabulation.proofs.Followed.{entered, not_entered}
use Rattle.tabulation.proofs.following.add_entries.Goals as goal

pub returns-in_ok-add_entry_facts-in-Some : goal.returns-in_ok-add_entry_facts-in-Some
returns-in_ok-add_entry_facts-in-Some c =
    entered (setting c.args.boolean.now) c.args.edge.now c.in-Some.callee c.in-Some.field-0-1 c.in_ok-facts-in-Some.facts.items c.args.found.now.items
    c.add_entry.new.found.items c.add_entry_facts.new.found.items (rw c.setting.ensures at c.in-Some.ensures) c.in_ok-facts-in-Some.ensures.follow
    c.in_ok-add_entry-in-Some.ensures (rw c.as_slice.ensures.value at c.in_ok-add_entry_facts-in-Some.ensures)

pub returns-in-None : goal.returns-in-None
returns-in-None c =
    not_entered (setting c.args.boolean.now) c.args.edge.now c.args.found.now.items (rw c.setting.ensures at c.in-None.ensures)
