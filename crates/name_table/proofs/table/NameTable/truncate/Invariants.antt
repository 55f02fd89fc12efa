use Rattle.std.proofs.Common.{◌≡◌, length, take}
use Rattle.name_table.proofs.table.NameTable.truncate.Given as goal

abbrev pub invariant-each : goal.invariant-each
invariant-each l = take l.length l.self ≡ take l.length l.fn.self

abbrev pub decreases-each : goal.decreases-each
decreases-each l = length l.self
