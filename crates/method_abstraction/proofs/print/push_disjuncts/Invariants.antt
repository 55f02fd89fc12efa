use Rattle.std.proofs.Common.{◌≡◌, ◌++◌, [], drop, map}
use Rattle.std.specs.Prelude.{codes}
use Rattle.method_abstraction.specs.{disjunct_text}
use Rattle.method_abstraction.proofs.Joined.{led}
use Rattle.method_abstraction.proofs.print.push_disjuncts.Given as goal

abbrev pub invariant-each : goal.invariant-each
invariant-each l =
    l.out.items ++ led l.before (codes " or ") (map disjunct_text (drop l.disjunct-index l.disjuncts))
    ≡ l.initial.out.items ++ led [] (codes " or ") (map disjunct_text l.disjuncts)
