use Rattle.std.proofs.Common.{ap, sym, ◌∙◌}
use Rattle.client_facts.specs.Flows.{copied}
use Rattle.step_flows.proofs.Nexts.{no_copy, one_copy}
use Rattle.step_flows.proofs.Tests.{true_so}
use Rattle.step_flows.proofs.next.Next.add_copy.Goals as goal

pub returns-then-not-are_copied : goal.returns-then-not-are_copied
returns-then-not-are_copied c = no_copy _ _ _ _ _ _ _ _ c.as_slice.result.now _ c.as_slice.ensures c.if-not-are_copied.ensures.not_so

pub returns : goal.returns
returns c =
    one_copy _ _ _ _ _ _ _ _ c.in_ok-args.args _ _ c.in_ok-args.ensures
    (ap (copied c.args.target c.args.source) (sym c.as_slice.ensures) ∙ true_so c.are_copied.result c.if-not-are_copied.false c.are_copied.ensures.so)
    c.in_ok-add.ensures
