-- What the false answers of tests say, and lists read by number.
use Rattle.std.proofs.Common.{ℕ, ◌-◌, ◌≤◌, ◌≡◌, zero, suc, Bool, true, false, List, ◌∷◌, slice_get, ap, arith}
use Rattle.std.specs.Bool.{OnFalse, OnTrue}
use Rattle.std.proofs.lemmas.Bool.{false≢true}

pub OnFalse-weaker : {P Q : Type 0} (b : Bool) → (P → Q) → OnFalse b P → OnFalse b Q
OnFalse-weaker true f h = tt
OnFalse-weaker false f h = f h

pub true_so : {P : Type 0} (b : Bool) → b ≡ true → OnTrue b P → P
true_so true e h = h
true_so false e h = absurd (false≢true e)

-- behind the first three
pub past_three : {A : Type 0} (x y z : A) (xs : List A) (n : ℕ) → 3 ≤ n → slice_get (x ∷ y ∷ z ∷ xs) n ≡ slice_get xs (n - 3)
past_three x y z xs zero l = absurd (omega arith)
past_three x y z xs (suc zero) l = absurd (omega arith)
past_three x y z xs (suc (suc zero)) l = absurd (omega arith)
past_three x y z xs (suc (suc (suc n))) l = ap (slice_get xs) (omega arith)
