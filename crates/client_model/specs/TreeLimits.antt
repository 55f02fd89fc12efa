-- The stated limit on a client: which parameters are beyond it, in text order.
use Rattle.std.specs.Prelude.{◌≡◌, List, [], Option, map, slice_get}
use Rattle.std.specs.List.{flat_map}
use Rattle.client_model.specs.declared.tree.Client.{Client}
use Rattle.client_model.specs.declared.tree.Proc.{Proc}
use Rattle.easl_model.specs.TreeLimits.{beyond}
use Rattle.easl_model.specs.declared.fault.Excess.{Excess}
use Rattle.easl_model.specs.declared.fault.Which.TheVariants as which

-- the parameters of a procedure beyond the sixteenth
abbrev pub excess_of_procedure : Proc → List Excess
excess_of_procedure procedure = beyond 16 which.Parameters (map (λ p. p.place) procedure.params)

abbrev pub excess_of : Client → List Excess
excess_of client = flat_map excess_of_procedure client.procedures

-- the client keeps the limit
abbrev pub IsWithinLimits : Client → Type 0
IsWithinLimits client = excess_of client ≡ []

-- the first of what a client has beyond the limit
abbrev pub first_excess : Client → Option Excess
first_excess client = slice_get (excess_of client) 0
