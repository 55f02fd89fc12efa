use Rattle.std.proofs.Common.{ap, drop, length, map, ◌++◌}
use Rattle.client_bodies.proofs.InOrder.{headers_stay, no_static, static_added}
use Rattle.client_model.specs.Settings.{header_of, statics_from}
use Rattle.client_model.specs.Trees.{procedures_in, statics_in}
use Rattle.client_bodies.proofs.tables.add_static.Goals as goal

pub returns-in_ok-push-in-Some-clause-statics : goal.returns-in_ok-push-in-Some-clause-statics
returns-in_ok-push-in-Some-clause-statics c order =
    let t = c.args.tables.now in
    static_added c.args.spec.now order c.args.client.now.statics (drop (length t.procedures) c.args.client.now.procedures) t.statics c.push.new.self
    c.in_ok-variable-in-Some.variable c.len-number.result c.in-Some.x.now
    c.len-number.ensures c.in-Some.ensures.value c.in_ok-variable-in-Some.ensures c.in_ok-push-in-Some.ensures.pushed

pub returns-in_ok-push-in-Some-clause-headers : goal.returns-in_ok-push-in-Some-clause-headers
returns-in_ok-push-in-Some-clause-headers c order =
    let t = c.args.tables.now in
    headers_stay c.args.spec.now order c.args.client.now.statics (drop (length t.procedures) c.args.client.now.procedures) t.statics c.push.new.self
    c.in_ok-variable-in-Some.variable t.procedures c.len-number.result c.in-Some.x.now
    c.len-number.ensures c.in-Some.ensures.value c.in_ok-push-in-Some.ensures.pushed

pub returns-in-None-clause-statics : goal.returns-in-None-clause-statics
returns-in-None-clause-statics c order =
    let t = c.args.tables.now in
    ap (λ items. t.statics ++ statics_from c.args.spec.now (length t.statics) (statics_in items))
    (no_static order c.args.client.now.statics (drop (length t.procedures) c.args.client.now.procedures) c.len-number.result (length t.statics) c.len-number.ensures c.in-None.ensures.value)

pub returns-in-None-clause-headers : goal.returns-in-None-clause-headers
returns-in-None-clause-headers c order =
    let t = c.args.tables.now in
    ap (λ items. t.procedures ++ map (header_of c.args.spec.now) (procedures_in items))
    (no_static order c.args.client.now.statics (drop (length t.procedures) c.args.client.now.procedures) c.len-number.result (length t.statics) c.len-number.ensures c.in-None.ensures.value)
