use Rattle.std.proofs.Common.{◌∙◌}
use Rattle.call_flows.proofs.Finding.{finds_more, finds_none}
use Rattle.call_flows.specs.Search.{IsWanted}
use Rattle.client_facts.specs.Held.{setting as told}
use Rattle.call_flows.proofs.found.found_listed.Goals as goal

pub each-init : goal.each-init
each-init c =
    finds_none (IsWanted (told c.args.setting.now) c.args.site.now c.args.wanted.now) c.args.family c.args.lists.now c.new-facts.result c.new-facts.ensures

pub each-preserved : goal.each-preserved
each-preserved c =
    finds_more (IsWanted (told c.args.setting.now) c.args.site.now c.args.wanted.now) c.args.family c.args.lists.now c.each.codes-index
    _ c.in_ok-args.args _ _ c.each-test.true (c.in_ok-args.ensures ∙ c.codes-item.is) c.each.invariant c.in_ok-add_wanted.ensures
