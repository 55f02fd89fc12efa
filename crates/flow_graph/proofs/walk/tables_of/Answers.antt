use Rattle.std.proofs.Common.{[], ◌∷◌, map, ap, ◌∙◌, arith}
use Rattle.std.proofs.lemmas.List.{map-append}
use Rattle.flow_graph.specs.Points.{next_in}
use Rattle.flow_graph.proofs.ByTables.{all_made, one_more}
use Rattle.client_model.specs.Checked.{procedure_seen}
use Rattle.flow_graph.proofs.walk.tables_of.Goals as goal

pub each-preserved : goal.each-preserved
each-preserved c =
    ap (map (λ v. v.items)) c.in_ok-push.ensures.items
    ∙ (map-append (λ v. v.items) c.each.next.items (c.in_ok-table.table ∷ [])
    ∙ one_more (λ p. next_in (procedure_seen p)) c.args.client.now.procedures c.each.number c.procedure.result.now (map (λ v. v.items) c.each.next.items)
    c.in_ok-table.table.items c.procedure.ensures c.in_ok-table.ensures c.each.invariant)

pub returns : goal.returns
returns c =
    all_made c.args.client.now (map (λ v. v.items) c.each.next.items) c.each.number (omega (arith, c.each-test.false, c.procedure_count-number-end.ensures))
    c.each.invariant
