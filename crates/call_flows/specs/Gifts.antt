-- Gifts: which names of the caller the hidden slots of a called procedure are given.
use Rattle.std.specs.Prelude.{◌≡◌, ◌↔◌, ◌==◌, ◌&&◌, ℕ, List, [], ◌∷◌, Some, None, All, if◌then◌else◌}
use Rattle.call_flows.specs.declared.gift.Gift.{Gift}
use Rattle.client_facts.specs.Choices.{Choice, IsGiven}
use Rattle.client_facts.specs.Setting.{Setting}

-- the choice gives the slot that name
abbrev pub Gives : Choice → Gift → Type 0
Gives c x = c x.class x.number ≡ Some x.code

-- a choice for the call at this point can make it
abbrev pub MayGive : Setting → ℕ → ℕ → Gift → Type 0
MayGive g p n x = IsGiven g p n x.class x.number x.code

-- one choice can make both: of one class, a slot has one name, and a name one slot
abbrev pub Agree : Gift → Gift → Type 0
Agree x y = x.class ≡ y.class → (x.number ≡ y.number) ↔ (x.code ≡ y.code)

-- a choice for the call at this point can make all of these
pub record AreGifts (g : Setting) (p n : ℕ) (gifts : List Gift) : Type 0 where
  pub given : All (MayGive g p n) gifts
  pub agree : All (λ x. All (Agree x) gifts) gifts

-- the choice that makes these gifts and no others
abbrev pub choice_of : List Gift → Choice
choice_of [] class number = None
choice_of (x ∷ xs) class number = if (x.class == class) && (x.number == number) then Some x.code else choice_of xs class number
