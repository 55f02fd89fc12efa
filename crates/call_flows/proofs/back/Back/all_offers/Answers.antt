use Rattle.std.proofs.Common.{[], ◌∷◌, ap, arith, length, length-append, subst, sym}
use Rattle.std.specs.Prelude.{slice_index_or}
use Rattle.call_flows.proofs.Behind.{one_back_more}
use Rattle.call_flows.specs.Offers.{IsReturnOffer}
use Rattle.client_facts.specs.Held.{setting as told}
use Rattle.call_flows.proofs.back.Back.all_offers.Goals as goal

pub each-preserved : goal.each-preserved
each-preserved c =
    let of = c.args.self.now in
    let many = c.each.invariant.count in
    let is = c.in_ok-push.ensures.items in record {
      count = omega (arith, many, ap length is, length-append c.each.places.items (c.in_ok-offers.offers ∷ []));
      each = one_back_more (told of.setting.now) of.site of.before.now of.entry.now c.args.classes.now c.args.codes.now c.each.places.items
          c.push.new.self.items c.in_ok-offers.offers is
          (subst (λ n. IsReturnOffer (told of.setting.now) of.site of.before.now of.entry.now (slice_index_or c.args.classes.now n 0)
          (slice_index_or c.args.codes.now n 0) c.in_ok-offers.offers) (sym many) c.in_ok-offers.ensures)
          c.each.invariant.each;
    }
