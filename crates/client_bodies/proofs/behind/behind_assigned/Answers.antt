use Rattle.std.proofs.Common.{refl, sym}
use Rattle.std.specs.Prelude.{Some}
use Rattle.client_bodies.proofs.Passing.{notes_then}
use Rattle.client_bodies.proofs.Walked.{walks_at}
use Rattle.client_model.specs.Contexts.{evaluated}
use Rattle.client_bodies.proofs.behind.behind_assigned.Goals as goal

pub returns-clause-behind : goal.returns-clause-behind
returns-clause-behind c d walks =
    let e = evaluated (Some c.args.value.now) d in
    c.in_ok-assign.ensures.behind e
    (walks_at c.args.setting.now d e c.args.context.now c.evaluate.new.context walks
    (c.in_ok-evaluate.ensures.behind d walks.knows (Some c.args.value.now) (sym c.call_count.ensures)) refl refl refl)

pub returns-clause-notes : goal.returns-clause-notes
returns-clause-notes c = notes_then c.args.context.now c.evaluate.new.context c.assign.new.context c.in_ok-evaluate.ensures.notes c.in_ok-assign.ensures.keeps
