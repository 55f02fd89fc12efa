-- What is needed of a slot choice.
use Rattle.std.specs.Prelude.{◌≡◌, ℕ, false, All}
use Rattle.call_flows.specs.Gifts.{Gives}
use Rattle.call_flows.specs.declared.need.Need.{Need}
use Rattle.call_flows.specs.declared.need.Need.TheVariants.{Give, Never, Nothing}
use Rattle.call_flows.specs.declared.need.Needs.{Needs}
use Rattle.call_flows.specs.declared.need.Crossing.{Crossing}
use Rattle.call_flows.specs.declared.need.Crossing.TheVariants.{Entry, Return}
use Rattle.client_facts.specs.Calls.{AtEntry, AtReturn}
use Rattle.client_facts.specs.Choices.{Choice, IsChoice}
use Rattle.client_facts.specs.Setting.{Setting}
use Rattle.client_steps.specs.States.{Call}

-- the choice will do
abbrev pub Meets : Choice → Need → Type 0
Meets c Nothing = Unit {0}
Meets c (Give x) = Gives c x
Meets c Never = ⊥

-- for all of it
abbrev pub MeetsAll : Choice → Needs → Type 0
MeetsAll c a = (a.never ≡ false) × All (Gives c) a.gifts.items

-- a choice for the call at this point will do
abbrev pub CanMeet : Setting → ℕ → ℕ → Needs → Type 0
CanMeet g p n a = (c : Choice) × IsChoice g p n c × MeetsAll c a

-- how names stand for one another on the way in, and on the way back
abbrev pub Crosses : Crossing → Choice → Call → ℕ → ℕ → ℕ → Type 0
Crosses Entry c k class a b = AtEntry c k class a b
Crosses Return c k class a b = AtReturn c k class a b
