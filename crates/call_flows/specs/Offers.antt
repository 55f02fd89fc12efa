-- Which names are tried at the places of facts.
use Rattle.std.specs.Prelude.{◌≡◌, ◌<◌, ℕ, List, [], ◌∷◌, Contains, Some, length, slice_index_or}
use Rattle.call_flows.specs.Told.{call_told}
use Rattle.call_flows.specs.declared.site.Site.{Site}
use Rattle.client_facts.specs.Calls.{AllThree, AtEntry, AtReturn, Enters}
use Rattle.client_facts.specs.Choices.{Choice, IsChoice, IsGiven}
use Rattle.client_facts.specs.Setting.{Setting}
use Rattle.client_facts.specs.declared.fact.Fact.{Fact}
use Rattle.client_model.specs.Codes.{Name, Result, Slot, Static, Variable, name_of}
use Rattle.client_steps.specs.States.{Call}

-- at the entry, but for parameters: a static itself, else a slot
abbrev pub own_offers : ℕ → Name → List ℕ
own_offers code (Static number) = code ∷ []
own_offers code (Variable number) = 2 ∷ 6 ∷ 10 ∷ []
own_offers code (Slot number) = 2 ∷ 6 ∷ 10 ∷ []
own_offers code (Result number) = []

-- each name that stands at the entry for the caller's name under some choice is among these
abbrev pub IsEntryOffer : Site → ℕ → List ℕ → Type 0
IsEntryOffer s a offers = (g : Setting) (c : Choice) (class b : ℕ) → IsChoice g s.procedure s.point c → AtEntry c (call_told s) class a b → Contains offers b

-- at the entry the name stands for a, wherever these names of the called procedure stand for those of the caller
abbrev pub IsGivenAs : List ℕ → List ℕ → List ℕ → ℕ → ℕ → ℕ → Type 0
IsGivenAs classes outer inner class code a = (c : Choice) (k : Call) → AllThree (AtEntry c k) classes outer inner → AtEntry c k class a code

-- the same, wherever the entry fact follows from the one before the call
abbrev pub IsGivenBy : Setting → Fact → Fact → ℕ → ℕ → ℕ → Type 0
IsGivenBy g before entry class code a = (c : Choice) (k : Call) → Enters g c k before entry → AtEntry c k class a code

-- each name that a slot of the class may be given is among these
abbrev pub AreGivers : Setting → Site → ℕ → List ℕ → Type 0
AreGivers g s class offers = (number a : ℕ) → IsGiven g s.procedure s.point class number a → Contains offers a

-- each name that the slot is given under some choice under which the entry fact follows is among these
abbrev pub HasGivers : Setting → Site → Fact → Fact → ℕ → ℕ → List ℕ → Type 0
HasGivers g s before entry class b offers = (c : Choice) (number a : ℕ) → IsChoice g s.procedure s.point c → Enters g c (call_told s) before entry →
    name_of b ≡ Slot number → c class number ≡ Some a → Contains offers a

-- each name that stands behind the call for the name b of what was called, under some such choice, is among these
abbrev pub IsReturnOffer : Setting → Site → Fact → Fact → ℕ → ℕ → List ℕ → Type 0
IsReturnOffer g s before entry class b offers = (c : Choice) (a : ℕ) → IsChoice g s.procedure s.point c → Enters g c (call_told s) before entry →
    AtReturn c (call_told s) class a b → Contains offers a

-- place by place
pub record AreReturnOffers (g : Setting) (s : Site) (before entry : Fact) (classes codes : List ℕ) (places : List (List ℕ)) : Type 0 where
  pub as_many : length codes ≡ length classes → length places ≡ length classes
  pub each : (n : ℕ) → n < length places →
      IsReturnOffer g s before entry (slice_index_or classes n 0) (slice_index_or codes n 0) (slice_index_or places n [])
