use Rattle.std.proofs.Common.{◌≡◌, map, take}
use Rattle.flow_graph.specs.Points.{next_in}
use Rattle.client_model.specs.Checked.{procedure_seen}
use Rattle.flow_graph.proofs.walk.tables_of.Given as goal

abbrev pub invariant-each : goal.invariant-each
invariant-each l = map (λ v. v.items) l.next.items ≡ map (λ p. next_in (procedure_seen p)) (take l.number l.client.procedures)
