-- What `==` calls equal is fed alike to a hash.
use Rattle.std.specs.Prelude.{◌≡◌, ℕ, true, List, nat_eq}
use Rattle.std.specs.Cmp.Lexicographic.{pointwise}
use Rattle.std.specs.Hash as fed
use Rattle.std.proofs.Common.{ap}
use Rattle.cv_fix.specs.Same.{same_list, same_number}

-- the same numbers are fed alike
pub numbers_fed_alike : (xs ys : List ℕ) → pointwise nat_eq xs ys ≡ true → fed.slice fed.u32 xs ≡ fed.slice fed.u32 ys
numbers_fed_alike xs ys same = ap (fed.slice fed.u32) (same_list same_number xs ys same)
