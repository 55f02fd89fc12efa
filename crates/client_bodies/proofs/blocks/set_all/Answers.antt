use Rattle.client_bodies.proofs.Marked.{set_all_more}
use Rattle.client_bodies.proofs.blocks.set_all.Goals as goal

pub each-preserved : goal.each-preserved
each-preserved c =
    let inv = c.each.invariant in
    let more = set_all_more c.args.names.now c.each.names c.set.new.self c.args.numbers.now c.each.number-index c.each-test.true inv.assigned inv.grows inv.others c.in_ok-set.ensures in
    record { assigned = more.0; grows = more.1; others = more.2 }
