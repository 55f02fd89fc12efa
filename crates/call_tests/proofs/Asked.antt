-- A question without result positions.
use Rattle.std.proofs.Common.{◌≡◌, ℕ, zero, suc, Bool, true, false, List, [], ◌∷◌, Some, slice_get, arith}
use Rattle.access_paths.specs.Variables.{AreResults}
use Rattle.access_paths.specs.declared.term.Family.{Family}
use Rattle.easl_model.specs.declared.form.Method.{Method}

pub none_is_result : (m : Method) (family : Family) → AreResults m family 0
none_is_result m family = record { few = omega arith; each = λ n e. absurd (none n e) }
  where
    none : (n : ℕ) → slice_get (false ∷ false ∷ false ∷ []) n ≡ Some true → ⊥
    none zero e = absurd (cc)
    none (suc zero) e = absurd (cc)
    none (suc (suc zero)) e = absurd (cc)
    none (suc (suc (suc n))) e = absurd (cc)
