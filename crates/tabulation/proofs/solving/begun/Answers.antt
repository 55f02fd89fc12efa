use Rattle.std.proofs.Common.{◌∙◌}
use Rattle.client_facts.specs.Held.{setting}
use Rattle.tabulation.proofs.Begun.{begun}
use Rattle.tabulation.proofs.solving.begun.Goals as goal

pub returns : goal.returns
returns c = begun (setting c.args.boolean.now) c.in_ok-solution.solution (c.in_ok-solution.ensures ∙ c.in-Ok.ensures.items)
