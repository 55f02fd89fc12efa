use Rattle.call_flows.proofs.Offered.{one_offer_more}
use Rattle.call_flows.proofs.entry.all_entry_offers.Goals as goal

pub each-preserved : goal.each-preserved
each-preserved c =
    one_offer_more c.args.site.now c.args.codes.now c.each.places.items c.push.new.self.items c.each.code-index c.in_ok-offers.offers
    c.each-test.true c.in_ok-offers.ensures c.in_ok-push.ensures.items c.each.invariant
