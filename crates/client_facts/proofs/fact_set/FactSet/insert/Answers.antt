use Rattle.client_facts.proofs.Inserted.{is_with}
use Rattle.client_facts.proofs.fact_set.FactSet.insert.Goals as goal

pub returns : goal.returns
returns c = is_with c.args.self.now c.insert.new.self.keys c.args.fact (cc (c.in-Ok.ensures.keys, c.self.view_is))
