use Rattle.std.proofs.Common.{◌+◌, refl, subst, sym}
use Rattle.client_facts.specs.Held.{setting}
use Rattle.client_facts.proofs.ListedNames.{AreTables, held_tables, one_more_table}
use Rattle.client_facts.proofs.names.all_variables.Goals as goal

pub each-preserved : goal.each-preserved
each-preserved c =
    subst (AreTables (setting c.args.setting.now) (c.each.procedure + 1)) (sym c.in_ok-push.ensures.items)
    (one_more_table (setting c.args.setting.now) c.each.procedure (c.each.procedure + 1) c.variables.result.now c.each.tables.items c.in_ok-lists.lists refl
    c.variables.ensures c.in_ok-lists.ensures c.each.invariant)

pub returns : goal.returns
returns c =
    held_tables c.args.setting.now c.client.result.now c.procedure_count-procedure-end.result c.each.procedure c.each.tables.items c.client.ensures
    c.procedure_count-procedure-end.ensures c.each-test.false c.each.invariant
