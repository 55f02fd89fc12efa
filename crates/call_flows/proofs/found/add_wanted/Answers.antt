use Rattle.call_flows.proofs.Finding.{adds_it}
use Rattle.call_flows.specs.Search.{IsWanted}
use Rattle.client_facts.specs.Held.{setting as told}
use Rattle.call_flows.proofs.found.add_wanted.Goals as goal

pub returns : goal.returns
returns c =
    adds_it (IsWanted (told c.args.setting.now) c.args.site.now c.args.wanted.now) c.args.fact c.in_ok-is_wanted.field-0 _ _ c.in_ok-is_wanted.ensures
    c.if-not-branch.false c.in_ok-insert.ensures
