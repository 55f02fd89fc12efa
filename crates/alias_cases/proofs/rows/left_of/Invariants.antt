use Rattle.std.proofs.Common.{◌≡◌, ◌↔◌, ℕ, take}
use Rattle.std.specs.Int.{bit_at}
use Rattle.alias_cases.specs.{AreAllSet}
use Rattle.alias_cases.proofs.rows.left_of.Given as goal

abbrev pub invariant-each : goal.invariant-each
invariant-each l = (bit : ℕ) → bit_at l.left bit ≡ 1 ↔ ((bit_at l.bits bit ≡ 1) × AreAllSet l.rows (take l.literal-index l.literals) l.word bit)
