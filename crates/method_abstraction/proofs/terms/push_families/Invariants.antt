use Rattle.std.proofs.Common.{◌≡◌, ◌++◌, drop}
use Rattle.method_abstraction.specs.{families_text}
use Rattle.method_abstraction.proofs.terms.push_families.Given as goal

abbrev pub invariant-each : goal.invariant-each
invariant-each l = record {
  number : l.number ≡ l.family-index;
  text : l.out.items ++ families_text l.spec l.number (drop l.family-index l.families)
      ≡ l.initial.out.items ++ families_text l.spec 0 l.families;
}
