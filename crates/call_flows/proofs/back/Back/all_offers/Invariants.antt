use Rattle.std.proofs.Common.{◌≡◌, ◌<◌, ℕ, [], length, slice_index_or}
use Rattle.call_flows.specs.Offers.{IsReturnOffer}
use Rattle.client_facts.specs.Held.{setting as told}
use Rattle.call_flows.proofs.back.Back.all_offers.Given as goal

abbrev pub invariant-each : goal.invariant-each
invariant-each l = record {
  count : length l.places.items ≡ l.at;
  each : (n : ℕ) → n < length l.places.items → IsReturnOffer (told l.self.setting.now) l.self.site l.self.before.now l.self.entry.now
      (slice_index_or l.classes n 0) (slice_index_or l.codes n 0) (slice_index_or l.places.items n []);
}
