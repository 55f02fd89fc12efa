use Rattle.std.proofs.Common.{length, subst, sym}
use Rattle.boolean_client.specs.ClauseTables.{AreClauseFacts, AreFactsOf}
use Rattle.client_facts.specs.Held.{setting}
use Rattle.boolean_client.proofs.Tables.{facts_at}
use Rattle.boolean_client.proofs.boolean_client.BooleanClient.clause_facts.Goals as goal

pub returns : goal.returns
returns c =
    subst (AreFactsOf (setting c.args.self.now) c.args.call c.args.clause) (sym c.as_slice.ensures.value)
    (facts_at (setting c.args.self.now) (length c.args.self.now.client.calls) c.args.call c.args.clause c.self.inside.clauses.items c.index.result.now
    c.index-2.result.now c.requires.call c.requires.first c.requires.last c.index.ensures c.index-2.ensures
    (subst (λ h. AreClauseFacts (setting h) (length h.client.calls) c.self.inside.clauses.items) c.self.view_is c.self.invariant.1))
