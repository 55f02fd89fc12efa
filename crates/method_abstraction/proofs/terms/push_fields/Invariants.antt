use Rattle.std.proofs.Common.{◌≡◌, ◌++◌, drop}
use Rattle.method_abstraction.specs.{fields_text}
use Rattle.method_abstraction.proofs.terms.push_fields.Given as goal

abbrev pub invariant-each : goal.invariant-each
invariant-each l =
    l.out.items ++ fields_text l.spec l.class (drop l.field-index l.fields)
    ≡ l.initial.out.items ++ fields_text l.spec l.start l.fields
