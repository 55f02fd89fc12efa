use Rattle.std.proofs.Common.{ap, drop, length, map, ◌++◌}
use Rattle.client_bodies.proofs.InOrder.{header_added, no_procedure, statics_stay}
use Rattle.client_model.specs.Settings.{header_of, statics_from}
use Rattle.client_model.specs.Trees.{procedures_in, statics_in}
use Rattle.client_bodies.proofs.tables.add_header.Goals as goal

pub returns-in_ok-push-in-Some-clause-statics : goal.returns-in_ok-push-in-Some-clause-statics
returns-in_ok-push-in-Some-clause-statics c order =
    let t = c.args.tables.now in
    statics_stay c.args.spec.now order (drop (length t.statics) c.args.client.now.statics) c.args.client.now.procedures t.statics (length t.statics) t.procedures c.push.new.self
    c.in_ok-header-in-Some.header c.len.result c.in-Some.procedure.now
    c.len.ensures c.in-Some.ensures.value c.in_ok-push-in-Some.ensures.pushed

pub returns-in_ok-push-in-Some-clause-headers : goal.returns-in_ok-push-in-Some-clause-headers
returns-in_ok-push-in-Some-clause-headers c order =
    let t = c.args.tables.now in
    header_added c.args.spec.now order (drop (length t.statics) c.args.client.now.statics) c.args.client.now.procedures t.procedures c.push.new.self
    c.in_ok-header-in-Some.header c.len.result c.in-Some.procedure.now
    c.len.ensures c.in-Some.ensures.value c.in_ok-header-in-Some.ensures c.in_ok-push-in-Some.ensures.pushed

pub returns-in-None-clause-statics : goal.returns-in-None-clause-statics
returns-in-None-clause-statics c order =
    let t = c.args.tables.now in
    ap (λ items. t.statics ++ statics_from c.args.spec.now (length t.statics) (statics_in items))
    (no_procedure order (drop (length t.statics) c.args.client.now.statics) c.args.client.now.procedures c.len.result (length t.procedures) c.len.ensures c.in-None.ensures.value)

pub returns-in-None-clause-headers : goal.returns-in-None-clause-headers
returns-in-None-clause-headers c order =
    let t = c.args.tables.now in
    ap (λ items. t.procedures ++ map (header_of c.args.spec.now) (procedures_in items))
    (no_procedure order (drop (length t.statics) c.args.client.now.statics) c.args.client.now.procedures c.len.result (length t.procedures) c.len.ensures c.in-None.ensures.value)
