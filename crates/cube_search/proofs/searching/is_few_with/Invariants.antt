use Rattle.std.proofs.Common.{◌≡◌, ◌≤◌, [], ◌∷◌, ◌++◌}
use Rattle.cube_search.specs.Search.{how_many}
use Rattle.cube_search.proofs.searching.is_few_with.Given as goal

abbrev pub invariant-loop-variable : goal.invariant-loop-variable
invariant-loop-variable l = record {
  count : l.count ≡ how_many l.variables (l.cube ++ l.literal ∷ []) l.variable;
  few : l.count ≤ l.variable;
}
