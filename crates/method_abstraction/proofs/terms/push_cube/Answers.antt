use Rattle.std.proofs.Common.{ap, map}
use Rattle.std.proofs.lemmas.List.{drop_all}
use Rattle.method_abstraction.specs.{literal_text}
use Rattle.method_abstraction.proofs.Joined.{all_joined}
use Rattle.method_abstraction.proofs.terms.push_cube.Goals as goal

pub returns : goal.returns
returns c =
    all_joined _ _ _ c.args.out.now.items _ (map (literal_text c.args.spec.now c.args.classes.now) c.args.literals.now)
    (ap (λ left. map (literal_text c.args.spec.now c.args.classes.now) left) (drop_all c.each.literal-index c.args.literals.now c.each-test.false)) c.each.invariant
