use Rattle.std.proofs.Common.{◌+◌, refl, subst, sym}
use Rattle.boolean_client.specs.ClauseTables.{AreClauseFacts}
use Rattle.client_facts.specs.Held.{setting}
use Rattle.boolean_client.proofs.Tables.{more_rows}
use Rattle.boolean_client.proofs.clause_table.clause_table.Goals as goal

pub each-preserved : goal.each-preserved
each-preserved c =
    subst (AreClauseFacts (setting c.args.setting.now) (c.each.call + 1)) (sym c.in_ok-push.ensures.items)
    (more_rows (setting c.args.setting.now) c.each.call (c.each.call + 1) c.each.table.items c.in_ok-row.row refl c.in_ok-row.ensures c.each.invariant)
