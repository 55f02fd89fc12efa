use Rattle.std.proofs.Common.{◌≡◌, drop}
use Rattle.std.specs.List.{flat_map}
use Rattle.std.specs.Prelude.{slice_get}
use Rattle.client_model.specs.TreeLimits.{excess_of_procedure}
use Rattle.client_parser.proofs.limits.first_excess.Given as goal

abbrev pub invariant-each : goal.invariant-each
invariant-each l =
    slice_get (flat_map excess_of_procedure (drop l.procedure-index l.fn.client.procedures)) 0
    ≡ slice_get (flat_map excess_of_procedure l.fn.client.procedures) 0
