use Rattle.std.proofs.Common.{◌≡◌, ◌++◌, [], drop, map}
use Rattle.std.specs.Prelude.{codes}
use Rattle.method_abstraction.specs.{literal_text}
use Rattle.method_abstraction.proofs.Joined.{led}
use Rattle.method_abstraction.proofs.terms.push_cube.Given as goal

abbrev pub invariant-each : goal.invariant-each
invariant-each l =
    l.out.items ++ led l.before (codes ", ") (map (literal_text l.spec l.classes) (drop l.literal-index l.literals))
    ≡ l.initial.out.items ++ led [] (codes ", ") (map (literal_text l.spec l.classes) l.literals)
