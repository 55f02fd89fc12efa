-- The law on the end of the questions: a specification closes in one way, or one question stops it for one reason, and not both. Own.
use Rattle.std.specs.Prelude.{◌≡◌, ◌≢◌}
use Rattle.easl_model.specs.Form.{Form}
use Rattle.method_abstraction.specs.declared.entry.Abstraction.{Abstraction}
use Rattle.derivation.specs.Closing.{Closes, Stops}
use Rattle.derivation.specs.declared.derive_fault.DeriveFault.{DeriveFault}
use Rattle.derivation.specs.declared.derive_fault.DeriveFault.TheVariants.{Memory}

pub record HasOneEnd (form : Form) : Type 0 where
  pub closes : (a b : Abstraction) → Closes form a → Closes form b → a ≡ b
  pub stops : (first second : DeriveFault) → first ≢ Memory → second ≢ Memory → Stops form first → Stops form second → first ≡ second
  pub either : (a : Abstraction) (fault : DeriveFault) → fault ≢ Memory → Closes form a → Stops form fault → ⊥

abbrev pub EndsOnce : Type 0
EndsOnce = (form : Form) → HasOneEnd form
