use Rattle.call_flows.proofs.Matches.{wanted_by}
use Rattle.client_facts.specs.Held.{setting as told}
use Rattle.call_flows.proofs.search.is_wanted.Goals as goal

pub returns-in-Entry : goal.returns-in-Entry
returns-in-Entry c = wanted_by c.enters.result (told c.args.setting.now) c.args.site.now _ c.args.wanted.now c.args.fact.now c.in-Entry.is c.enters.ensures

pub returns-in-Return : goal.returns-in-Return
returns-in-Return c = wanted_by c.returns.result (told c.args.setting.now) c.args.site.now _ c.args.wanted.now c.args.fact.now c.in-Return.is c.returns.ensures
