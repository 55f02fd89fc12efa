use Rattle.std.proofs.Common.{◌∙◌}
use Rattle.set_names.proofs.Numbers.{by_number, finished}
use Rattle.set_names.proofs.set_so_far.SetSoFar.finish.Goals as goal

pub returns-clause-set : goal.returns-clause-set
returns-clause-set c = rw (← c.self.view_is) (c.new.ensures ∙ finished c.self.inside.variables.items c.self.inside.points c.args.statics)

pub returns-clause-by_number : goal.returns-clause-by_number
returns-clause-by_number c = rw (← c.self.view_is) (by_number c.self.inside.variables.items c.self.inside.points)
