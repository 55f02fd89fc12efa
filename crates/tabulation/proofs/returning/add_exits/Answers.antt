use Rattle.std.proofs.Common.{arith, get_or, length, ◌<◌}
use Rattle.std.proofs.lemmas.List.{get_or_default}
use Rattle.client_facts.specs.Held.{setting}
use Rattle.tabulation.proofs.Reached.{from_place}
use Rattle.tabulation.specs.Successors.{IsReturned}
use Rattle.tabulation.proofs.returning.add_exits.Goals as goal

pub each-preserved : goal.each-preserved
each-preserved c =
    let i = c.each.place-index in
    let places = c.args.places.now in
    let below : i < length places = omega arith in
    from_place (IsReturned (setting c.args.boolean.now) c.args.edge.now) c.args.edges.now places i (get_or places i 0) c.index-edges-place.result
    c.args.found.now.items c.each.found.items c.add_returns.new.found.items below (get_or_default places i 0 (get_or places i 0) below)
    (c.requires i below) c.index-edges-place.is c.each.invariant c.in_ok-add_returns.ensures
