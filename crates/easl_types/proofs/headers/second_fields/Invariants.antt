use Rattle.std.proofs.Common.{◌≡◌, [], drop, map}
use Rattle.easl_model.specs.{fields_in, first_with, second_names}
use Rattle.easl_model.specs.Faults.{comes_before}
use Rattle.easl_types.proofs.headers.second_fields.Given as goal

abbrev pub invariant-each : goal.invariant-each
invariant-each l =
    first_with comes_before l.found (second_names l.before (map (λ f. f.name) (fields_in (drop l.member-index l.members))))
    ≡ first_with comes_before l.fn.start (second_names [] (map (λ f. f.name) (fields_in l.members)))
