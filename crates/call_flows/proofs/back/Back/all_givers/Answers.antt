use Rattle.call_flows.proofs.Behind.{givers_there}
use Rattle.client_facts.specs.Held.{setting as told}
use Rattle.call_flows.proofs.back.Back.all_givers.Goals as goal

pub returns : goal.returns
returns c =
    givers_there (told c.args.self.now.setting.now) c.args.self.now.site c.args.self.now.names.now c.args.class c.requires c.in_ok-codes.codes
    c.variables.result.now c.push_codes.new.codes c.in_ok-codes.ensures c.variables.ensures c.in_ok-push_codes.ensures
