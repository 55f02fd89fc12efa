use Rattle.cube_search.proofs.Steps.{IsAlong}
use Rattle.cube_search.proofs.searching.search_pairs.Given as goal

abbrev pub invariant-each : goal.invariant-each
invariant-each l = IsAlong l.fn.task 1 l.fn.from l.fn.row l.fn.cube l.fn.kept.items l.literal l.kept.items
