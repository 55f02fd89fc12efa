use Rattle.step_flows.proofs.Entries.{clause_given, clause_other, method_other}
use Rattle.step_flows.proofs.names.Asked.add_clause.Goals as goal

pub returns-then-entry-self : goal.returns-then-entry-self
returns-then-entry-self c = method_other _ _ _ _ _ c.if-entry-self.true

pub returns-then-entry-clause : goal.returns-then-entry-clause
returns-then-entry-clause c = clause_other _ _ _ _ _ c.if-entry-clause.true

pub returns : goal.returns
returns c = clause_given _ _ _ _ _ _ _ c.if-entry-self.false c.if-entry-clause.false c.as_slice.ensures c.in_ok-add_puts.ensures
