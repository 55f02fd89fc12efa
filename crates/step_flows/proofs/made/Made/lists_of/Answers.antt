use Rattle.std.proofs.Common.{subst, sym, ℕ, List}
use Rattle.std.specs.List.{AllZip}
use Rattle.client_facts.specs.Held.{setting}
use Rattle.client_facts.specs.Names.{IsNameAt}
use Rattle.step_flows.proofs.Choosing.{IfOk-then}
use Rattle.step_flows.proofs.made.Made.lists_of.Goals as goal

pub returns-then-number-family : goal.returns-then-number-family
returns-then-number-family c = λ args e right zip. absurd (c.if-number-family.true e)

pub returns-then-not-may_be : goal.returns-then-not-may_be
returns-then-not-may_be c = λ args e right zip. absurd (c.if-not-may_be.ensures args right.named)

pub returns : goal.returns
returns c =
    let s = c.args.self.now in
    IfOk-then c.right_lists.result
    (λ v h. λ args e right zip. (let P : List ℕ → Type 0 = λ cs. AllZip (IsNameAt (setting s.next.now.setting.now) s.next.now.procedure s.next.now.point) cs
    args in h args right (subst P (sym c.classes.ensures) zip)))
    c.right_lists.ensures
