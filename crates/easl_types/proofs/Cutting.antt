-- Counts that are cut off.
use Rattle.std.proofs.Common.{◌≡◌, ℕ, ◌+◌, arith}
use Rattle.easl_types.specs.Counts.{cut}

pub cut_more : (m n : ℕ) → cut (cut m + cut n) ≡ cut (m + n)
cut_more m n = omega arith

pub cut_second : (m n : ℕ) → cut (m + cut n) ≡ cut (m + n)
cut_second m n = omega arith
