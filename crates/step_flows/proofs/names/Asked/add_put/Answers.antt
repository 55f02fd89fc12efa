use Rattle.std.proofs.Common.{[]}
use Rattle.client_facts.specs.Flows.{names_of_update}
use Rattle.step_flows.proofs.Putting.{none_put, one_put}
use Rattle.step_flows.proofs.names.Asked.add_put.Goals as goal

pub returns-in_default : goal.returns-in_default
returns-in_default c =
    let s = c.args.self.now in
    none_put (names_of_update s.results [] s.method.now s.site.now) _ _ _ c.in_default.is c.in_ok-given.ensures

pub returns : goal.returns
returns c =
    let s = c.args.self.now in
    one_put (names_of_update s.results [] s.method.now s.site.now) _ _ _ _ _ c.in-Some.is c.in_ok-given.ensures c.in_ok-insert.ensures
