use Rattle.std.proofs.Common.{◌+◌, ◌*◌, length}
use Rattle.cv_read.proofs.Along.{IsAlong}
use Rattle.easl_parser.specs.Reading.{atom_at, all_at, and_by, or_by}
use Rattle.easl_parser.proofs.conditions.+conditions.Given as goal

abbrev pub decreases-any : goal.decreases-any
decreases-any l = 10 * l.depth

abbrev pub decreases-group : goal.decreases-group
decreases-group l = 10 * l.depth + 1

abbrev pub decreases-atom : goal.decreases-atom
decreases-atom l = 10 * l.depth + 2

abbrev pub decreases-and_atom : goal.decreases-and_atom
decreases-and_atom l = 10 * l.depth + 3

abbrev pub decreases-and_atoms : goal.decreases-and_atoms
decreases-and_atoms l = 10 * l.depth + 4

abbrev pub decreases-all : goal.decreases-all
decreases-all l = 10 * l.depth + 5

abbrev pub decreases-or_all : goal.decreases-or_all
decreases-or_all l = 10 * l.depth + 6

abbrev pub decreases-or_alls : goal.decreases-or_alls
decreases-or_alls l = 10 * l.depth + 7

abbrev pub decreases-any_within : goal.decreases-any_within
decreases-any_within l = 10 * l.depth + 8

abbrev pub invariant-and_atoms-each : goal.invariant-and_atoms-each
invariant-and_atoms-each l = IsAlong (and_by (atom_at l.source.text.now l.depth)) l.fn.tokens l.rest l.found

abbrev pub decreases-and_atoms-each : goal.decreases-and_atoms-each
decreases-and_atoms-each l = length l.rest

abbrev pub invariant-or_alls-each : goal.invariant-or_alls-each
invariant-or_alls-each l = IsAlong (or_by (all_at l.source.text.now l.depth)) l.fn.tokens l.rest l.found

abbrev pub decreases-or_alls-each : goal.decreases-or_alls-each
decreases-or_alls-each l = length l.rest
