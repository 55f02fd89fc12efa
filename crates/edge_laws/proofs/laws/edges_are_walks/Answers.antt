use Rattle.edge_laws.proofs.Edges as edges
use Rattle.edge_laws.proofs.laws.edges_are_walks.Goals as goal

pub returns-clause-walks : goal.returns-clause-walks
returns-clause-walks c = edges.edges_are_walks

pub returns-clause-flags : goal.returns-clause-flags
returns-clause-flags c = edges.flags_are_edges
