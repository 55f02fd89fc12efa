use Rattle.std.proofs.Common.{rules}
use Rattle.cv_base.specs.Causes.{Rose}
use Rattle.canvas_cli.proofs.Derives.{derived, derives, opens}
use Rattle.canvas_cli.proofs.Headlines.{complete, headline, not_built}
use Rattle.canvas_cli.proofs.Outcomes.{runs_exactly}
use Rattle.canvas_cli.proofs.Shows.{limits, refused, shown, shows}
use Rattle.canvas_cli.proofs.Told.{known}
use Rattle.canvas_cli.proofs.canvas.canvas.Goals as goal

pub returns-clause-known : goal.returns-clause-known
returns-clause-known g c =
    known (g.S.Shelf.held c.args.shelf.now) (λ name. Rose (g.S.Shelf.faults c.args.shelf.now name) (g.S.Shelf.faults c.answer-answer.new.shelf name))
    c.args.words.now
    (g.W.Sink.taken c.args.out.now) (g.W.Sink.taken c.write.new.out) (Rose (g.W.Sink.faults c.args.out.now) (g.W.Sink.faults c.write.new.out)) c.write.result
    (search rules)

pub returns-clause-headline : goal.returns-clause-headline
returns-clause-headline g c =
    headline (g.S.Shelf.held c.args.shelf.now) (λ name. Rose (g.S.Shelf.faults c.args.shelf.now name) (g.S.Shelf.faults c.answer-answer.new.shelf name))
    c.args.words.now
    (g.W.Sink.taken c.args.out.now) (g.W.Sink.taken c.write.new.out) (Rose (g.W.Sink.faults c.args.out.now) (g.W.Sink.faults c.write.new.out)) c.write.result
    (search rules)

pub returns-clause-runs : goal.returns-clause-runs
returns-clause-runs g c =
    runs_exactly (g.S.Shelf.held c.args.shelf.now) (λ name. Rose (g.S.Shelf.faults c.args.shelf.now name) (g.S.Shelf.faults c.answer-answer.new.shelf name))
    c.args.words.now
    (g.W.Sink.taken c.args.out.now) (g.W.Sink.taken c.write.new.out) (Rose (g.W.Sink.faults c.args.out.now) (g.W.Sink.faults c.write.new.out)) c.write.result
    (search rules)

pub returns-clause-shows : goal.returns-clause-shows
returns-clause-shows g c =
    shows (g.S.Shelf.held c.args.shelf.now) (λ name. Rose (g.S.Shelf.faults c.args.shelf.now name) (g.S.Shelf.faults c.answer-answer.new.shelf name))
    c.args.words.now
    (g.W.Sink.taken c.args.out.now) (g.W.Sink.taken c.write.new.out) (Rose (g.W.Sink.faults c.args.out.now) (g.W.Sink.faults c.write.new.out)) c.write.result
    (search rules)

pub returns-clause-refused : goal.returns-clause-refused
returns-clause-refused g c =
    refused (g.S.Shelf.held c.args.shelf.now) (λ name. Rose (g.S.Shelf.faults c.args.shelf.now name) (g.S.Shelf.faults c.answer-answer.new.shelf name))
    c.args.words.now
    (g.W.Sink.taken c.args.out.now) (g.W.Sink.taken c.write.new.out) (Rose (g.W.Sink.faults c.args.out.now) (g.W.Sink.faults c.write.new.out)) c.write.result
    (search rules)

pub returns-clause-limits : goal.returns-clause-limits
returns-clause-limits g c =
    limits (g.S.Shelf.held c.args.shelf.now) (λ name. Rose (g.S.Shelf.faults c.args.shelf.now name) (g.S.Shelf.faults c.answer-answer.new.shelf name))
    c.args.words.now
    (g.W.Sink.taken c.args.out.now) (g.W.Sink.taken c.write.new.out) (Rose (g.W.Sink.faults c.args.out.now) (g.W.Sink.faults c.write.new.out)) c.write.result
    (search rules)

pub returns-clause-not_built : goal.returns-clause-not_built
returns-clause-not_built g c =
    not_built (g.S.Shelf.held c.args.shelf.now) (λ name. Rose (g.S.Shelf.faults c.args.shelf.now name) (g.S.Shelf.faults c.answer-answer.new.shelf name))
    c.args.words.now
    (g.W.Sink.taken c.args.out.now) (g.W.Sink.taken c.write.new.out) (Rose (g.W.Sink.faults c.args.out.now) (g.W.Sink.faults c.write.new.out)) c.write.result
    (search rules)

pub returns-clause-complete : goal.returns-clause-complete
returns-clause-complete g c =
    complete (g.S.Shelf.held c.args.shelf.now) (λ name. Rose (g.S.Shelf.faults c.args.shelf.now name) (g.S.Shelf.faults c.answer-answer.new.shelf name))
    c.args.words.now
    (g.W.Sink.taken c.args.out.now) (g.W.Sink.taken c.write.new.out) (Rose (g.W.Sink.faults c.args.out.now) (g.W.Sink.faults c.write.new.out)) c.write.result
    (search rules)

pub returns-clause-shown : goal.returns-clause-shown
returns-clause-shown g c =
    shown (g.S.Shelf.held c.args.shelf.now) (λ name. Rose (g.S.Shelf.faults c.args.shelf.now name) (g.S.Shelf.faults c.answer-answer.new.shelf name))
    c.args.words.now
    (g.W.Sink.taken c.args.out.now) (g.W.Sink.taken c.write.new.out) (Rose (g.W.Sink.faults c.args.out.now) (g.W.Sink.faults c.write.new.out)) c.write.result
    (search rules)

pub returns-clause-derives : goal.returns-clause-derives
returns-clause-derives g c =
    derives (g.S.Shelf.held c.args.shelf.now) (λ name. Rose (g.S.Shelf.faults c.args.shelf.now name) (g.S.Shelf.faults c.answer-answer.new.shelf name))
    c.args.words.now
    (g.W.Sink.taken c.args.out.now) (g.W.Sink.taken c.write.new.out) (Rose (g.W.Sink.faults c.args.out.now) (g.W.Sink.faults c.write.new.out)) c.write.result
    (search rules)

pub returns-clause-opens : goal.returns-clause-opens
returns-clause-opens g c =
    opens (g.S.Shelf.held c.args.shelf.now) (λ name. Rose (g.S.Shelf.faults c.args.shelf.now name) (g.S.Shelf.faults c.answer-answer.new.shelf name))
    c.args.words.now
    (g.W.Sink.taken c.args.out.now) (g.W.Sink.taken c.write.new.out) (Rose (g.W.Sink.faults c.args.out.now) (g.W.Sink.faults c.write.new.out)) c.write.result
    (search rules)

pub returns-clause-derived : goal.returns-clause-derived
returns-clause-derived g c =
    derived (g.S.Shelf.held c.args.shelf.now) (λ name. Rose (g.S.Shelf.faults c.args.shelf.now name) (g.S.Shelf.faults c.answer-answer.new.shelf name))
    c.args.words.now
    (g.W.Sink.taken c.args.out.now) (g.W.Sink.taken c.write.new.out) (Rose (g.W.Sink.faults c.args.out.now) (g.W.Sink.faults c.write.new.out)) c.write.result
    (search rules)
