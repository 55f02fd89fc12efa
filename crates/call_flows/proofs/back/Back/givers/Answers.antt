use Rattle.call_flows.proofs.Finding.{if_ok_then}
use Rattle.call_flows.proofs.Behind.{all_give}
use Rattle.client_facts.specs.Held.{setting as told}
use Rattle.call_flows.proofs.back.Back.givers.Goals as goal

pub returns-in-None : goal.returns-in-None
returns-in-None c =
    let of = c.args.self.now in
    if_ok_then c.all_givers.result (λ offers are. all_give (told of.setting.now) of.site of.before.now of.entry.now c.args.class c.args.code offers are)
    c.all_givers.ensures
