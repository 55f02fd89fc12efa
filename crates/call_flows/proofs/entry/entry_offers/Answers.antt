use Rattle.std.proofs.Common.{ap, ◌∙◌}
use Rattle.call_flows.proofs.Offered.{entry_offer}
use Rattle.call_flows.specs.Offers.{own_offers}
use Rattle.call_flows.proofs.entry.entry_offers.Goals as goal

pub returns : goal.returns
returns c =
    entry_offer c.args.site.now c.args.code c.in_ok-offers.offers c.add_parameters.new.offers c.in_ok-add_parameters.ensures.kept
    c.in_ok-add_parameters.ensures.taken (c.in_ok-offers.ensures ∙ ap (own_offers c.args.code) c.name_of.ensures)
