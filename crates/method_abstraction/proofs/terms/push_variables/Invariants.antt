use Rattle.std.proofs.Common.{◌≡◌, ◌++◌, [], drop}
use Rattle.std.specs.Prelude.{codes}
use Rattle.method_abstraction.specs.{variables_text}
use Rattle.method_abstraction.proofs.Joined.{led}
use Rattle.method_abstraction.proofs.terms.push_variables.Given as goal

abbrev pub invariant-each : goal.invariant-each
invariant-each l = record {
  number : l.number ≡ l.class-index;
  text : l.out.items ++ led l.before (codes ", ") (variables_text l.spec l.number (drop l.class-index l.classes))
      ≡ l.initial.out.items ++ led [] (codes ", ") (variables_text l.spec 0 l.classes);
}
