use Rattle.std.proofs.Common.{drop, map, refl, suc}
use Rattle.client_bodies.proofs.AllWritten.{initialiser_own, initialiser_written, none_written}
use Rattle.client_bodies.proofs.InOrder.{initialiser_passed, no_static, none_passed}
use Rattle.client_bodies.specs.InTextOrder.{so_far}
use Rattle.client_model.specs.Bodies.{before_initialiser}
use Rattle.client_points.specs.Wholes.{unset_seen}
use Rattle.client_bodies.proofs.AllSets.{initialiser_sets, same_sets}
use Rattle.client_bodies.proofs.bodies.pass_static.Goals as goal

pub returns-in_ok-pass_initialiser-in-Some-clause-first : goal.returns-in_ok-pass_initialiser-in-Some-clause-first
returns-in_ok-pass_initialiser-in-Some-clause-first c order =
    let s = c.args.setting.now in
    let p = c.args.progress.now in
    let knows = c.in_ok-pass_initialiser-in-Some.ensures p.start.points p.start.calls c.requires.start in
    initialiser_passed s order c.args.client.now.statics (drop p.procedures c.args.client.now.procedures) p.start.points c.pass_initialiser.new.context.points
    (suc p.procedures) p.start.calls c.pass_initialiser.new.context.calls c.in-Some.x.now p.found c.faults_of_assigned-found.result
    c.in-Some.ensures.value knows.points knows.calls (c.faults_of_assigned-found.ensures (before_initialiser s p.start.points p.start.calls) c.requires.start)

pub returns-in_ok-pass_initialiser-in-Some-clause-all : goal.returns-in_ok-pass_initialiser-in-Some-clause-all
returns-in_ok-pass_initialiser-in-Some-clause-all c order =
    let s = c.args.setting.now in
    let p = c.args.progress.now in
    let knows = c.in_ok-pass_initialiser-in-Some.ensures p.start.points p.start.calls c.requires.start in
    initialiser_written s order c.args.client.now.statics (drop p.procedures c.args.client.now.procedures) p.start.points c.pass_initialiser.new.context.points
    (suc p.procedures) p.start.calls c.pass_initialiser.new.context.calls c.in-Some.x.now (so_far p) _
    c.in-Some.ensures.value knows.points knows.calls
    (initialiser_own s p.start.points p.start.calls c.in-Some.x.now p.written c.note_assigned.new.self (map unset_seen p.forms)
    (c.in_ok-note_assigned-in-Some.ensures (before_initialiser s p.start.points p.start.calls) c.requires.start))

pub returns-in-None-clause-first : goal.returns-in-None-clause-first
returns-in-None-clause-first c order =
    let p = c.args.progress.now in
    none_passed c.args.setting.now p.found p.start.points (suc p.procedures) p.start.calls _ _
    (no_static order c.args.client.now.statics (drop p.procedures c.args.client.now.procedures) p.start.points p.start.points refl c.in-None.ensures.value)

pub returns-in-None-clause-all : goal.returns-in-None-clause-all
returns-in-None-clause-all c order =
    let p = c.args.progress.now in
    none_written c.args.setting.now (so_far p) p.start.points (suc p.procedures) p.start.calls _ _
    (no_static order c.args.client.now.statics (drop p.procedures c.args.client.now.procedures) p.start.points p.start.points refl c.in-None.ensures.value)

pub returns-in_ok-pass_initialiser-in-Some-clause-sets : goal.returns-in_ok-pass_initialiser-in-Some-clause-sets
returns-in_ok-pass_initialiser-in-Some-clause-sets c order none =
    let s = c.args.setting.now in
    let p = c.args.progress.now in
    let knows = c.in_ok-pass_initialiser-in-Some.ensures p.start.points p.start.calls c.requires.start in
    initialiser_sets s order c.args.client.now.statics (drop p.procedures c.args.client.now.procedures) p.start.points c.pass_initialiser.new.context.points
    (suc p.procedures) p.start.calls c.pass_initialiser.new.context.calls c.in-Some.x.now (map (λ f. f.set) p.forms)
    c.in-Some.ensures.value knows.points knows.calls none

pub returns-in-None-clause-sets : goal.returns-in-None-clause-sets
returns-in-None-clause-sets c order none =
    let p = c.args.progress.now in
    same_sets c.args.setting.now (map (λ f. f.set) p.forms) p.start.points (suc p.procedures) p.start.calls _ _
    (no_static order c.args.client.now.statics (drop p.procedures c.args.client.now.procedures) p.start.points p.start.points refl c.in-None.ensures.value) none
