-- A code tells its name.
use Rattle.std.proofs.Common.{◌≡◌, ℕ, ◌+◌, ◌*◌, ◌/◌, ◌%◌, refl, arith}
use Rattle.client_model.specs.Codes.{CodesTellNames, name_by, name_of}

named : (code kind number : ℕ) → code % 4 ≡ kind → code / 4 ≡ number → name_of code ≡ name_by kind number
named code kind number is of = λ i. name_by (is i) (of i)

pub codes_tell : CodesTellNames
codes_tell = record {
  statics = λ k. named (4 * k) 0 k (omega arith) (omega arith);
  variables = λ j. named (4 * j + 1) 1 j (omega arith) (omega arith);
  slots = λ j. named (4 * j + 2) 2 j (omega arith) (omega arith);
  result = refl;
}
