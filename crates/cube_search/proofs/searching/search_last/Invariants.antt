use Rattle.std.proofs.Common.{[], ◌∷◌, ◌++◌}
use Rattle.cube_search.proofs.Steps.{IsAlong}
use Rattle.cube_search.proofs.searching.search_last.Given as goal

abbrev pub invariant-each : goal.invariant-each
invariant-each l = IsAlong l.fn.task 0 l.fn.from l.fn.row (l.fn.cube ++ l.fn.literal ∷ []) l.fn.kept.items l.last l.kept.items
