use Rattle.std.proofs.Common.{◌≡◌, [], drop, map}
use Rattle.easl_model.specs.{first_with, second_names}
use Rattle.easl_model.specs.Faults.{comes_before}
use Rattle.easl_types.proofs.headers.second_classes.Given as goal

abbrev pub invariant-each : goal.invariant-each
invariant-each l =
    first_with comes_before l.found (second_names l.before (map (λ c. c.name) (drop l.class-index l.classes)))
    ≡ first_with comes_before l.fn.start (second_names [] (map (λ c. c.name) l.classes))
