use Rattle.std.proofs.Common.{◌≡◌, drop}
use Rattle.std.specs.List.{flat_map}
use Rattle.easl_model.specs.{fields_in, first_with, no_class}
use Rattle.easl_model.specs.Faults.{comes_before}
use Rattle.easl_types.proofs.headers.types_of_fields.Given as goal

abbrev pub invariant-each : goal.invariant-each
invariant-each l =
    first_with comes_before l.found (flat_map (λ f. no_class l.spec f.class) (fields_in (drop l.member-index l.members)))
    ≡ first_with comes_before l.fn.start (flat_map (λ f. no_class l.spec f.class) (fields_in l.members))
