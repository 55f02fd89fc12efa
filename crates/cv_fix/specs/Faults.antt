-- The cases of the answers that are no success.
use Rattle.std.specs.Prelude.{ℕ, Result, IfErr, IsErrAnd, ◌≡◌, ◌⊎◌, ⊤}
use Rattle.cv_fix.specs.declared.known.AddFault.{AddFault}
use Rattle.cv_fix.specs.declared.known.AddFault.TheVariants as add
use Rattle.cv_fix.specs.declared.closure.CloseFault.{CloseFault}
use Rattle.cv_fix.specs.declared.closure.CloseFault.TheVariants as fault

-- P, if this is why an item was not added: there are as many as there may be
abbrev pub AtFull : AddFault → Type 0 → Type 0
AtFull add.Full P = P
AtFull add.Memory P = ⊤

abbrev pub OnFull : {A : Type 0} → Result A AddFault → Type 0 → Type 0
OnFull r P = IfErr r (λ f. AtFull f P)

module _ {S : Type 0} where
  -- P of the refusal, if an item refused
  abbrev pub AtStop : CloseFault S → (S → Type 0) → Type 0
  AtStop (fault.Stop stop) P = P stop
  AtStop f P = ⊤

  abbrev pub IfStop : {A : Type 0} → Result A (CloseFault S) → (S → Type 0) → Type 0
  IfStop r P = IfErr r (λ f. AtStop f P)

  -- P of the place, if there were too many items
  abbrev pub AtOver : CloseFault S → (ℕ → Type 0) → Type 0
  AtOver (fault.Over at) P = P at
  AtOver f P = ⊤

  abbrev pub IfOver : {A : Type 0} → Result A (CloseFault S) → (ℕ → Type 0) → Type 0
  IfOver r P = IfErr r (λ f. AtOver f P)

  -- The answer is this fault, unless memory ran out.
  abbrev pub IsFault : {A : Type 0} → Result A (CloseFault S) → CloseFault S → Type 0
  IsFault r f = IsErrAnd r (λ e. (e ≡ f) ⊎ (e ≡ fault.Memory))
