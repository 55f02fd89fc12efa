use Rattle.std.proofs.Common.{◌≡◌, ◌++◌, [], drop, map}
use Rattle.std.specs.Prelude.{codes}
use Rattle.method_abstraction.specs.{variable_text}
use Rattle.method_abstraction.proofs.Joined.{led}
use Rattle.method_abstraction.proofs.print.push_vars.Given as goal

abbrev pub invariant-each : goal.invariant-each
invariant-each l =
    l.out.items ++ led l.before (codes ", ") (map (λ v. variable_text v.0) (drop l.var-index l.vars))
    ≡ l.initial.out.items ++ led [] (codes ", ") (map (λ v. variable_text v.0) l.vars)
