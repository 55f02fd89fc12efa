use Rattle.std.proofs.lemmas.Result.{on_ok_weaker}
use Rattle.call_flows.proofs.Matches.{needed_as, no_family, other_family, same_family}
use Rattle.call_flows.specs.Needs.{Crosses}
use Rattle.call_flows.specs.Told.{call_told}
use Rattle.client_facts.specs.Held.{setting as told}
use Rattle.call_flows.proofs.need.need_same.Goals as goal

pub returns-then-other-family : goal.returns-then-other-family
returns-then-other-family c =
    on_ok_weaker c.need_all.result
    (λ known x. needed_as
    (same_family (told c.args.setting.now) (Crosses c.args.crossing x (call_told c.args.site.now)) c.args.inner.now c.args.family c.in-Of.other c.args.args.now
    c.in-Of.codes _ _ _ c.classes-classes.ensures c.as_slice.ensures c.as_slice-then-other-family.ensures c.in-Of.is c.if-other-family.true) (known x)) c.need_all.ensures

pub returns-else-other-family : goal.returns-else-other-family
returns-else-other-family c =
    on_ok_weaker c.add-else-other-family.result
    (λ known x. needed_as
    (other_family (told c.args.setting.now) (Crosses c.args.crossing x (call_told c.args.site.now)) c.args.inner.now c.args.family c.in-Of.other c.args.args.now
    c.in-Of.codes c.in-Of.is c.if-other-family.false) (known x)) c.add-else-other-family.ensures

pub returns-in-Always : goal.returns-in-Always
returns-in-Always c =
    on_ok_weaker c.add.result
    (λ known x. needed_as
    (no_family (told c.args.setting.now) (Crosses c.args.crossing x (call_told c.args.site.now)) c.args.inner.now c.args.family c.args.args.now c.in-Always.is)
    (known x)) c.add.ensures
