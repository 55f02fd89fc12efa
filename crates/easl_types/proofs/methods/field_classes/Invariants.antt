use Rattle.std.proofs.Common.{◌≡◌, ◌++◌, drop, map}
use Rattle.easl_model.specs.{class_number, fields_in}
use Rattle.easl_types.proofs.methods.field_classes.Given as goal

abbrev pub invariant-each : goal.invariant-each
invariant-each l =
    l.classes ++ map (λ f. class_number l.spec f.class) (fields_in (drop l.member-index l.members))
    ≡ map (λ f. class_number l.spec f.class) (fields_in l.members)
