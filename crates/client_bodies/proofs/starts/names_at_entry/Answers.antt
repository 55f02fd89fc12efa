use Rattle.client_bodies.proofs.Started.{param_more}
use Rattle.client_bodies.proofs.starts.names_at_entry.Goals as goal

pub each-preserved : goal.each-preserved
each-preserved c =
    param_more c.args.statics c.each.number c.each.names c.declare.new.self c.set.new.self c.each.invariant c.in_ok-declare.ensures c.in_ok-set.ensures
