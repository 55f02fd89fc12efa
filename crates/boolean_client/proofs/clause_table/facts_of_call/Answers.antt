use Rattle.std.proofs.Common.{◌+◌, refl, subst, sym}
use Rattle.boolean_client.specs.ClauseTables.{AreFirstFacts}
use Rattle.client_facts.specs.Held.{setting}
use Rattle.boolean_client.proofs.Tables.{more_facts}
use Rattle.boolean_client.proofs.clause_table.facts_of_call.Goals as goal

pub each-preserved : goal.each-preserved
each-preserved c =
    subst (AreFirstFacts (setting c.args.setting.now) c.args.call (c.each.number + 1)) (sym c.in_ok-push.ensures.items)
    (more_facts (setting c.args.setting.now) c.args.call c.each.number (c.each.number + 1) c.each.row.items c.in_ok-facts.facts refl
    c.in_ok-facts.ensures.facts c.each.invariant)
