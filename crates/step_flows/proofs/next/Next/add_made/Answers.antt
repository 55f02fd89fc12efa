use Rattle.std.proofs.Common.{ap, ◌∙◌}
use Rattle.method_abstraction.specs.declared.entry.Abstraction.{Abstraction}
use Rattle.step_flows.proofs.Following.{made_by, made_nowhere}
use Rattle.step_flows.proofs.next.Next.add_made.Goals as goal

pub returns-in_default : goal.returns-in_default
returns-in_default c = made_nowhere _ _ _ _ _ _ _ c.in_default.ensures

pub returns : goal.returns
returns c =
    made_by _ _ _ _ _ c.in-Some.asked.site.now c.in-Some.asked.method.now _ c.as_slice.result.now _ _ c.in-Some.ensures.0
    (c.as_slice.ensures ∙ ap (λ (v : Abstraction). v.updates) c.abstraction.ensures)
    c.in_ok-add_updates.ensures
