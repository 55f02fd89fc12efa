use Rattle.std.proofs.Common.{take}
use Rattle.std.specs.List.{AllZip}
use Rattle.call_flows.specs.Offers.{IsEntryOffer}
use Rattle.call_flows.proofs.entry.all_entry_offers.Given as goal

abbrev pub invariant-each : goal.invariant-each
invariant-each l = AllZip (IsEntryOffer l.site) (take l.code-index l.codes) l.places.items
