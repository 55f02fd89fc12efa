-- Names that are compared.
use Rattle.std.proofs.Common.{◌≡◌, ◌≢◌, ℕ, Bool, true, false, List, sym, refl}
use Rattle.std.specs.Prelude.{IsTrue}
use Rattle.easl_model.specs.{is_same}
use Rattle.easl_model.proofs.Found.{other_is, same_is}

pub told_same : (told : Bool) (left right : List ℕ) → (IsTrue told → left ≡ right) → (told ≡ false → left ≢ right) → told ≡ is_same left right
told_same true left right same other = sym (same_is left right (same refl))
told_same false left right same other = sym (other_is left right (other refl))
