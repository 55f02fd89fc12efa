use Rattle.std.proofs.Common.{ap, map}
use Rattle.std.proofs.lemmas.List.{drop_all}
use Rattle.method_abstraction.specs.{disjunct_text}
use Rattle.method_abstraction.proofs.Joined.{all_joined}
use Rattle.method_abstraction.proofs.print.push_disjuncts.Goals as goal

pub returns : goal.returns
returns c =
    all_joined _ _ _ c.args.out.now.items _ (map disjunct_text c.args.disjuncts.now)
    (ap (λ left. map disjunct_text left) (drop_all c.each.disjunct-index c.args.disjuncts.now c.each-test.false)) c.each.invariant
