use Rattle.client_facts.specs.Held.{setting}
use Rattle.tabulation.proofs.Noted.{caller_there, no_caller}
use Rattle.tabulation.proofs.index.add_caller.Goals as goal

pub returns-in_ok-add_facts-in-Some : goal.returns-in_ok-add_facts-in-Some
returns-in_ok-add_facts-in-Some c =
    caller_there (setting c.args.boolean.now) c.args.edge.now c.in-Some.callee c.in-Some.field-0-1 c.in_ok-facts-in-Some.facts.items c.args.at
    c.args.callers.now c.add_facts.new.callers (rw c.setting.ensures at c.in-Some.ensures) c.in_ok-facts-in-Some.ensures.follow
    (rw c.as_slice.ensures.value at c.in_ok-add_facts-in-Some.ensures)

pub returns-in-None : goal.returns-in-None
returns-in-None c =
    no_caller (setting c.args.boolean.now) c.args.edge.now c.args.at c.args.callers.now (rw c.setting.ensures at c.in-None.ensures)
