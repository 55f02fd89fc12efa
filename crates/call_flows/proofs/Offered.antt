-- The names that are tried are all that may stand at a place.
use Rattle.std.proofs.Common.{◌≡◌, ◌<◌, ◌+◌, ◌*◌, ◌/◌, ◌%◌, ℕ, zero, suc, List, [], ◌∷◌, ◌++◌, length, take, slice_index_or, refl, sym, ap, ◌∙◌}
use Rattle.std.proofs.Common.{subst, arith}
use Rattle.std.specs.Prelude.{Contains, Some, slice_get}
use Rattle.std.specs.List.{AllZip}
use Rattle.std.proofs.lemmas.List.{take_more}
use Rattle.std.proofs.lemmas.Slice.Zip.{all_zipped_more}
use Rattle.call_flows.specs.Offers.{IsEntryOffer, own_offers}
use Rattle.call_flows.specs.Told.{call_told}
use Rattle.call_flows.specs.declared.site.Site.{Site}
use Rattle.client_facts.specs.Calls.{AllThree, AtEntry, StandsFor}
use Rattle.client_facts.specs.Choices.{Choice, IsChoice, MayBeGiven}
use Rattle.client_facts.specs.Setting.{Setting}
use Rattle.client_model.specs.Codes.{Name, Result, Slot, Static, Variable, name_by, name_of, variable_code}

-- what has a name of this kind has this code
slot_by : (kind number j : ℕ) → name_by kind number ≡ Slot j → (kind ≡ 2) × (number ≡ j)
slot_by zero number j is = absurd cc
slot_by (suc zero) number j is = absurd cc
slot_by (suc (suc zero)) number j is = (refl, cc)
slot_by (suc (suc (suc more))) number j is = absurd cc

variable_by : (kind number j : ℕ) → name_by kind number ≡ Variable j → (kind ≡ 1) × (number ≡ j)
variable_by zero number j is = absurd cc
variable_by (suc zero) number j is = (refl, cc)
variable_by (suc (suc zero)) number j is = absurd cc
variable_by (suc (suc (suc more))) number j is = absurd cc

pub code_of_slot : (code j : ℕ) → name_of code ≡ Slot j → code ≡ 4 * j + 2
code_of_slot code j is = let parts = slot_by (code % 4) (code / 4) j is in omega (arith, parts.0, parts.1)

pub code_of_variable : (code j : ℕ) → name_of code ≡ Variable j → code ≡ variable_code j
code_of_variable code j is = let parts = variable_by (code % 4) (code / 4) j is in omega (arith, parts.0, parts.1)

pub slots_have : (code j : ℕ) → name_of code ≡ Slot j → j < 3 → Contains (2 ∷ 6 ∷ 10 ∷ []) code
slots_have code zero is few = (0, omega arith, omega (arith, code_of_slot code 0 is))
slots_have code (suc zero) is few = (1, omega arith, omega (arith, code_of_slot code 1 is))
slots_have code (suc (suc zero)) is few = (2, omega arith, omega (arith, code_of_slot code 2 is))
slots_have code (suc (suc (suc more))) is few = absurd (omega (arith, few))

-- a name that may be given to a slot has the slots
given_has : (code other j : ℕ) (name : Name) → MayBeGiven name → name_of other ≡ Slot j → j < 3 → Contains (own_offers code name) other
given_has code other j (Static k) kind is few = absurd kind
given_has code other j (Variable k) kind is few = slots_have other j is few
given_has code other j (Slot k) kind is few = slots_have other j is few
given_has code other j (Result k) kind is few = absurd kind

module _ (s : Site) (a : ℕ) (own offers : List ℕ) (kept : (x : ℕ) → Contains own x → Contains offers x)
    (taken : (j : ℕ) → slice_get s.args.now j ≡ Some (Some a) → Contains offers (variable_code j)) where
  offered_by : (g : Setting) (c : Choice) (class b : ℕ) (name : Name) → own ≡ own_offers a (name_of a) → name_of b ≡ name →
      IsChoice g s.procedure s.point c → StandsFor c (call_told s) class a b name → Contains offers b
  offered_by g c class b (Static k) so is choice stands =
      let own_is : own_offers a (name_of a) ≡ a ∷ [] = ap (own_offers a) (ap name_of (sym stands) ∙ is) in
      kept b (subst (λ l. Contains l b) (sym (so ∙ own_is)) (0, omega arith, sym stands))
  offered_by g c class b (Variable j) so is choice stands = subst (Contains offers) (sym (code_of_variable b j is)) (taken j stands)
  offered_by g c class b (Slot j) so is choice stands =
      let given = choice.given class j a stands in
      kept b (subst (λ l. Contains l b) (sym so) (given_has a b j (name_of a) given.kind is given.three))
  offered_by g c class b (Result j) so is choice stands = absurd stands

  pub entry_offer : own ≡ own_offers a (name_of a) → IsEntryOffer s a offers
  entry_offer so = λ g c class b choice stands. offered_by g c class b (name_of b) so refl choice stands

-- with the offers for one name more
pub one_offer_more : (s : Site) (codes : List ℕ) (places more : List (List ℕ)) (n : ℕ) (offers : List ℕ) → n < length codes →
    IsEntryOffer s (slice_index_or codes n 0) offers → more ≡ places ++ offers ∷ [] → AllZip (IsEntryOffer s) (take n codes) places →
    AllZip (IsEntryOffer s) (take (n + 1) codes) more
one_offer_more s codes places more n offers lt offer is all =
    subst (λ l. AllZip (IsEntryOffer s) (take (n + 1) codes) l) (sym is)
    (subst (λ l. AllZip (IsEntryOffer s) l (places ++ offers ∷ [])) (sym (take_more codes n 0 lt))
    (all_zipped_more (IsEntryOffer s) (take n codes) places (slice_index_or codes n 0) offers all offer))

-- names that stand at the entry are among the offers, place by place
pub all_offered : (g : Setting) (s : Site) (c : Choice) → IsChoice g s.procedure s.point c → (classes codes others : List ℕ) (places : List (List ℕ)) →
    AllZip (IsEntryOffer s) codes places → AllThree (AtEntry c (call_told s)) classes codes others → AllZip Contains places others
all_offered g s c choice [] [] [] [] offers stand = tt
all_offered g s c choice [] [] [] (p ∷ ps) offers stand = absurd offers
all_offered g s c choice [] [] (o ∷ os) places offers stand = absurd stand
all_offered g s c choice [] (a ∷ as') others places offers stand = absurd stand
all_offered g s c choice (k ∷ ks) [] others places offers stand = absurd stand
all_offered g s c choice (k ∷ ks) (a ∷ codes) [] places offers stand = absurd stand
all_offered g s c choice (k ∷ ks) (a ∷ codes) (o ∷ os) [] offers stand = absurd offers
all_offered g s c choice (k ∷ ks) (a ∷ codes) (o ∷ os) (p ∷ ps) offers stand =
    (offers.0 g c k o choice stand.0, all_offered g s c choice ks codes os ps offers.1 stand.1)
