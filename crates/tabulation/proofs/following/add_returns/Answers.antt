use Rattle.client_facts.specs.Held.{setting}
use Rattle.tabulation.proofs.Followed.{not_called}
use Rattle.tabulation.proofs.following.add_returns.Goals as goal

pub returns-in-None : goal.returns-in-None
returns-in-None c =
    not_called (setting c.args.boolean.now) c.args.before.now c.args.exit.now c.args.found.now.items (rw c.setting.ensures at c.in-None.ensures)
