use Rattle.std.proofs.Common.{◌≡◌, drop}
use Rattle.std.specs.List.{flat_map}
use Rattle.std.specs.Prelude.{option_map}
use Rattle.client_headers.proofs.headers.types_of_statics.Given as goal
use Rattle.client_model.specs.Faults.{comes_before}
use Rattle.client_model.specs.HeaderFaults.{no_type}
use Rattle.client_values.specs.ToldFaults.{fault_told}
use Rattle.easl_model.specs.Faults.{first_with}

abbrev pub invariant-each : goal.invariant-each
invariant-each l =
    first_with comes_before (option_map fault_told l.found) (flat_map (λ x. no_type l.spec x.sort) (drop l.item-index l.statics))
    ≡ first_with comes_before (option_map fault_told l.fn.start) (flat_map (λ x. no_type l.spec x.sort) l.statics)
