use Rattle.std.proofs.Common.{◌≡◌, ◌++◌, drop, map}
use Rattle.easl_model.specs.{fields_in}
use Rattle.easl_types.proofs.methods.field_names.Given as goal

abbrev pub invariant-each : goal.invariant-each
invariant-each l = l.names ++ map (λ f. f.name.name) (fields_in (drop l.member-index l.members)) ≡ map (λ f. f.name.name) (fields_in l.members)
