use Rattle.std.proofs.Common.{◌-◌}
use Rattle.cube_search.proofs.Steps.{IsAlong}
use Rattle.cube_search.proofs.searching.+search.Given as goal

abbrev pub decreases-search : goal.decreases-search
decreases-search l = l.left

abbrev pub invariant-each : goal.invariant-each
invariant-each l = IsAlong l.task (l.left - 1) l.from l.row l.cube l.initial.kept.items l.literal l.kept.items
