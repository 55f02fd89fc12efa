use Rattle.std.proofs.lemmas.Result.{on_ok_weaker}
use Rattle.call_flows.proofs.Matches.{needed_as, not_always}
use Rattle.call_flows.proofs.need.need_always.Goals as goal

pub returns-in-Of : goal.returns-in-Of
returns-in-Of c =
    on_ok_weaker c.add.result (λ known x. needed_as (not_always c.args.inner.now c.in-Of.family c.in-Of.args c.in-Of.is) (known x)) c.add.ensures
