use Rattle.std.proofs.Common.{◌≤◌, ◌∙◌, sym, arith}
use Rattle.step_flows.proofs.Tests.{OnFalse-weaker, past_three}
use Rattle.step_flows.proofs.names.Asked.may_be_named.Goals as goal

pub returns : goal.returns
returns c =
    let late : 3 ≤ c.args.variable = omega arith in
    OnFalse-weaker c.is_code.result (λ other. λ codes e. other (c.call_name.ensures ∙ sym (past_three _ _ _ _ c.args.variable late) ∙ e))
    c.is_code.ensures.not_so
