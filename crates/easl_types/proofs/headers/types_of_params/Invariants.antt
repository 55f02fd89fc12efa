use Rattle.std.proofs.Common.{◌≡◌, drop}
use Rattle.std.specs.List.{flat_map}
use Rattle.easl_model.specs.{first_with, no_type}
use Rattle.easl_model.specs.Faults.{comes_before}
use Rattle.easl_types.proofs.headers.types_of_params.Given as goal

abbrev pub invariant-each : goal.invariant-each
invariant-each l =
    first_with comes_before l.found (flat_map (λ p. no_type l.spec p.sort) (drop l.param-index l.params))
    ≡ first_with comes_before l.fn.start (flat_map (λ p. no_type l.spec p.sort) l.params)
