use Rattle.std.proofs.Common.{ap, map}
use Rattle.std.proofs.lemmas.List.{drop_all}
use Rattle.method_abstraction.specs.{variable_text}
use Rattle.method_abstraction.proofs.Joined.{all_joined}
use Rattle.method_abstraction.proofs.print.push_vars.Goals as goal

pub returns : goal.returns
returns c =
    all_joined _ _ _ c.args.out.now.items _ (map (λ v. variable_text v.0) c.args.vars.now)
    (ap (λ left. map (λ v. variable_text v.0) left) (drop_all c.each.var-index c.args.vars.now c.each-test.false)) c.each.invariant
