use Rattle.std.proofs.Common.{◌≡◌, ◌++◌, drop}
use Rattle.client_model.specs.Ways as told
use Rattle.flow_graph.specs.Code.{row, ways_told}
use Rattle.flow_graph.proofs.walk.+walk.Given as goal

-- with those of the statements that are left they are those of all
abbrev pub invariant-add_all-each : goal.invariant-add_all-each
invariant-add_all-each l =
    l.next.items ++ told.ways_of (ways_told l.ways) (row (drop l.at l.nodes)) ≡ l.fn.next.items ++ told.ways_of (ways_told l.ways) (row l.nodes)
