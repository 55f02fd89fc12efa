use Rattle.std.proofs.Common.{◌≡◌, []}
use Rattle.cube_search.specs.Search.{kept_of, all_visited}
use Rattle.cube_search.proofs.searching.widest.Given as goal

abbrev pub invariant-sizes : goal.invariant-sizes
invariant-sizes l = l.kept.items ≡ kept_of l.fn.task (all_visited l.fn.task l.size) []
