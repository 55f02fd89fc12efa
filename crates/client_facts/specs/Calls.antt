-- Which facts at the entry of a called procedure, and behind its call, follow from others under a slot choice.
use Rattle.std.specs.Prelude.{◌≡◌, ℕ, ◌==◌, Bool, true, false, List, [], ◌∷◌, Option, Some, slice_get}
use Rattle.std.specs.Option.{option_map_or}
use Rattle.client_facts.specs.Choices.{Choice}
use Rattle.client_facts.specs.Facts.{classes_of}
use Rattle.client_facts.specs.Setting.{Setting}
use Rattle.client_facts.specs.declared.fact.Fact.{Fact}
use Rattle.client_facts.specs.declared.fact.Fact.TheVariants.{Always, Of}
use Rattle.client_model.specs.Codes.{Name, Result, Slot, Static, Variable, name_of, result_code}
use Rattle.client_steps.specs.States.{Call}

-- the slot was given this name of the caller; what is no slot was given none
abbrev pub WasGiven : Choice → ℕ → ℕ → Name → Type 0
WasGiven c class a (Static number) = ⊥
WasGiven c class a (Variable number) = ⊥
WasGiven c class a (Slot number) = c class number ≡ Some a
WasGiven c class a (Result number) = ⊥

-- at the entry the name b of what is called stands for the name a of the caller: a static for itself, a parameter for its argument, a slot
-- for the name that it is given
abbrev pub StandsFor : Choice → Call → ℕ → ℕ → ℕ → Name → Type 0
StandsFor c k class a b (Static number) = b ≡ a
StandsFor c k class a b (Variable number) = slice_get k.args number ≡ Some (Some a)
StandsFor c k class a b (Slot number) = c class number ≡ Some a
StandsFor c k class a b (Result number) = ⊥

abbrev pub AtEntry : Choice → Call → ℕ → ℕ → ℕ → Type 0
AtEntry c k class a b = StandsFor c k class a b (name_of b)

-- the name takes the result
abbrev pub is_target : Option ℕ → ℕ → Bool
is_target target code = option_map_or (λ x. x == code) target false

-- behind the call the name a of the caller, which does not take the result, stands for the name b of what was called: a static for itself,
-- any other for the slot that it was given to
abbrev pub Remains : Choice → ℕ → ℕ → ℕ → Name → Type 0
Remains c class a b (Static number) = b ≡ a
Remains c class a b (Variable number) = WasGiven c class a (name_of b)
Remains c class a b (Slot number) = WasGiven c class a (name_of b)
Remains c class a b (Result number) = ⊥

-- the name that takes the result stands for the result
abbrev pub ReturnsAs : Choice → ℕ → ℕ → ℕ → Bool → Type 0
ReturnsAs c class a b true = b ≡ result_code
ReturnsAs c class a b false = Remains c class a b (name_of a)

abbrev pub AtReturn : Choice → Call → ℕ → ℕ → ℕ → Type 0
AtReturn c k class a b = ReturnsAs c class a b (is_target k.target a)

-- three lists of one length, place by place
abbrev pub AllThree : (ℕ → ℕ → ℕ → Type 0) → List ℕ → List ℕ → List ℕ → Type 0
AllThree R [] [] [] = Unit {0}
AllThree R (x ∷ xs) (y ∷ ys) (z ∷ zs) = R x y z × AllThree R xs ys zs
AllThree R xs ys zs = ⊥

-- the names of two facts of one family stand so for one another, place by place
abbrev pub Match : Setting → (ℕ → ℕ → ℕ → Type 0) → Fact → Fact → Type 0
Match g R Always Always = Unit {0}
Match g R Always (Of family args) = ⊥
Match g R (Of family args) Always = ⊥
Match g R (Of family args) (Of other codes) = (family ≡ other) × AllThree R (classes_of g family) args codes

-- the entry fact e follows from d before the call
abbrev pub Enters : Setting → Choice → Call → Fact → Fact → Type 0
Enters g c k d e = Match g (AtEntry c k) d e

-- the fact f behind the call follows from the exit fact e
abbrev pub Returns : Setting → Choice → Call → Fact → Fact → Type 0
Returns g c k e f = Match g (AtReturn c k) f e
