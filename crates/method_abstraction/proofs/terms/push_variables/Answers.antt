use Rattle.std.proofs.Common.{ap}
use Rattle.std.proofs.lemmas.List.{drop_all}
use Rattle.method_abstraction.specs.{variables_text}
use Rattle.method_abstraction.proofs.Joined.{all_joined}
use Rattle.method_abstraction.proofs.terms.push_variables.Goals as goal

pub returns : goal.returns
returns c =
    all_joined _ _ _ c.args.out.now.items _ (variables_text c.args.spec.now 0 c.args.classes.now)
    (ap (λ left. variables_text c.args.spec.now c.each.number left) (drop_all c.each.class-index c.args.classes.now c.each-test.false)) c.each.invariant.text
