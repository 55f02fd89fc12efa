use Rattle.std.proofs.lemmas.Result.{on_ok_weaker}
use Rattle.call_flows.proofs.Matches.{always_match, needed_as, of_match}
use Rattle.call_flows.specs.Needs.{Crosses}
use Rattle.call_flows.specs.Told.{call_told}
use Rattle.client_facts.specs.Held.{setting as told}
use Rattle.call_flows.proofs.need.need_facts.Goals as goal

pub returns-in-Always : goal.returns-in-Always
returns-in-Always c =
    on_ok_weaker c.need_always.result
    (λ known x. needed_as
    (always_match (told c.args.setting.now) (Crosses c.args.crossing x (call_told c.args.site.now)) c.args.outer.now c.args.inner.now c.in-Always.is) (known x))
    c.need_always.ensures

pub returns-in-Of : goal.returns-in-Of
returns-in-Of c =
    on_ok_weaker c.need_same.result
    (λ known x. needed_as
    (of_match (told c.args.setting.now) (Crosses c.args.crossing x (call_told c.args.site.now)) c.args.outer.now c.args.inner.now c.in-Of.family c.in-Of.args
    c.in-Of.is) (known x))
    c.need_same.ensures
