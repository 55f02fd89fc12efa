use Rattle.set_names.proofs.names_so_far.NamesSoFar.trail.Goals as goal

pub returns-clause-within : goal.returns-clause-within
returns-clause-within c = rw (← c.self.view_is) c.self.invariant.inside
