use Rattle.std.proofs.Common.{ap, drop, map, refl, suc, ◌++◌, ◌∙◌}
use Rattle.std.specs.Prelude.{filter_map}
use Rattle.client_bodies.proofs.AllWritten.{none_written, procedure_own, procedure_written}
use Rattle.client_bodies.proofs.AllSets.{procedure_sets, same_sets}
use Rattle.client_bodies.proofs.InOrder.{no_procedure, none_passed, procedure_passed}
use Rattle.client_bodies.specs.InTextOrder.{so_far}
use Rattle.client_model.specs.Bodies.{all_in, body_of}
use Rattle.client_model.specs.Points.{site_at}
use Rattle.client_model.specs.Trees.{procedure_of}
use Rattle.client_bodies.proofs.bodies.pass_procedure.Goals as goal

pub returns-in_ok-push-in-Some-clause-first : goal.returns-in_ok-push-in-Some-clause-first
returns-in_ok-push-in-Some-clause-first c order =
    let p = c.args.progress.now in
    procedure_passed c.args.setting.now order (drop p.start.points c.args.client.now.statics) c.args.client.now.procedures p.start.points p.procedures
    c.in_ok-number-in-Some.number p.start.calls c.in_ok-passed-in-Some.passed.count c.in-Some.procedure.now p.found c.in_ok-passed-in-Some.passed.found
    c.in-Some.ensures.value c.in_ok-number-in-Some.ensures c.in_ok-passed-in-Some.ensures.found c.in_ok-passed-in-Some.ensures.count

pub returns-in_ok-push-in-Some-clause-all : goal.returns-in_ok-push-in-Some-clause-all
returns-in_ok-push-in-Some-clause-all c order =
    let s = c.args.setting.now in
    let p = c.args.progress.now in
    let passed = c.in_ok-passed-in-Some.passed in
    procedure_written s order (drop p.start.points c.args.client.now.statics) c.args.client.now.procedures p.start.points p.procedures
    c.in_ok-number-in-Some.number p.start.calls passed.count c.in-Some.procedure.now (so_far p) _
    c.in-Some.ensures.value c.in_ok-number-in-Some.ensures c.in_ok-passed-in-Some.ensures.count
    (procedure_own s c.in_ok-number-in-Some.number p.start.calls c.in-Some.procedure.now p.written.points p.forms c.push.new.self p.written.calls passed.calls passed.form
    c.in_ok-push-in-Some.ensures.ok c.in_ok-passed-in-Some.ensures.form
    (c.in_ok-passed-in-Some.ensures.calls
    ∙ ap (λ cs. cs ++ filter_map site_at (all_in (body_of s c.in_ok-number-in-Some.number p.start.calls (procedure_of c.in-Some.procedure.now)))) c.replace-calls.ensures.value))

pub returns-in-None-clause-first : goal.returns-in-None-clause-first
returns-in-None-clause-first c order =
    let p = c.args.progress.now in
    none_passed c.args.setting.now p.found p.start.points (suc p.procedures) p.start.calls _ _
    (no_procedure order (drop p.start.points c.args.client.now.statics) c.args.client.now.procedures p.procedures p.procedures refl c.in-None.ensures.value)

pub returns-in-None-clause-all : goal.returns-in-None-clause-all
returns-in-None-clause-all c order =
    let p = c.args.progress.now in
    none_written c.args.setting.now (so_far p) p.start.points (suc p.procedures) p.start.calls _ _
    (no_procedure order (drop p.start.points c.args.client.now.statics) c.args.client.now.procedures p.procedures p.procedures refl c.in-None.ensures.value)

pub returns-in_ok-push-in-Some-clause-sets : goal.returns-in_ok-push-in-Some-clause-sets
returns-in_ok-push-in-Some-clause-sets c order none =
    let p = c.args.progress.now in
    let passed = c.in_ok-passed-in-Some.passed in
    procedure_sets c.args.setting.now order (drop p.start.points c.args.client.now.statics) c.args.client.now.procedures p.start.points p.procedures
    c.in_ok-number-in-Some.number p.start.calls passed.count c.in-Some.procedure.now p.forms c.push.new.self passed.form
    c.in-Some.ensures.value c.in_ok-number-in-Some.ensures c.in_ok-passed-in-Some.ensures.count c.in_ok-push-in-Some.ensures.ok
    c.in_ok-passed-in-Some.ensures.sets none

pub returns-in-None-clause-sets : goal.returns-in-None-clause-sets
returns-in-None-clause-sets c order none =
    let p = c.args.progress.now in
    same_sets c.args.setting.now (map (λ f. f.set) p.forms) p.start.points (suc p.procedures) p.start.calls _ _
    (no_procedure order (drop p.start.points c.args.client.now.statics) c.args.client.now.procedures p.procedures p.procedures refl c.in-None.ensures.value) none
