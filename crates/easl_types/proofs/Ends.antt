-- The item behind some others.
use Rattle.std.proofs.Common.{◌≡◌, ℕ, zero, suc, List, [], ◌∷◌, ◌++◌, length, arith, refl}
use Rattle.std.specs.Prelude.{Some, slice_get}

pub at_end : {A : Type 0} (before : List A) (x : A) (rest : List A) (n : ℕ) → length before ≡ n → slice_get (before ++ x ∷ rest) n ≡ Some x
at_end [] x rest zero many = refl
at_end [] x rest (suc n) many = absurd (omega (arith, many))
at_end (y ∷ before) x rest zero many = absurd (omega (arith, many))
at_end (y ∷ before) x rest (suc n) many = at_end before x rest n (omega (arith, many))
