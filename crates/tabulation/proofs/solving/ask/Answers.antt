use Rattle.client_facts.specs.Held.{setting}
use Rattle.tabulation.proofs.Begun.{noted, so_far}
use Rattle.tabulation.specs.Indexed.{IsCallerOf, IsExitOf}
use Rattle.tabulation.proofs.solving.ask.Goals as goal

pub returns-clause-so_far : goal.returns-clause-so_far
returns-clause-so_far c =
    so_far (setting c.args.boolean.now) c.args.solution.now c.in_ok-found.found.items c.args.at c.requires.at c.requires.so_far
    (rw c.edges-3.ensures.value at c.in_ok-found.ensures) c.add_all.new.self c.in_ok-add_all.ensures

pub returns-clause-left : goal.returns-clause-left
returns-clause-left c =
    noted (setting c.args.boolean.now) c.args.solution.now c.in_ok-found.found.items c.args.at c.requires.at c.requires.so_far
    (rw c.edges-3.ensures.value at c.in_ok-found.ensures) (IsExitOf (setting c.args.boolean.now)) c.add_all.new.self c.in_ok-add_all.ensures
    c.note_exit.new.exits (rw c.edges.ensures.value at c.in_ok-note_exit.ensures)

pub returns-clause-called : goal.returns-clause-called
returns-clause-called c =
    noted (setting c.args.boolean.now) c.args.solution.now c.in_ok-found.found.items c.args.at c.requires.at c.requires.so_far
    (rw c.edges-3.ensures.value at c.in_ok-found.ensures) (IsCallerOf (setting c.args.boolean.now)) c.add_all.new.self c.in_ok-add_all.ensures
    c.note_caller.new.callers (rw c.edges-2.ensures.value at c.in_ok-note_caller.ensures)
