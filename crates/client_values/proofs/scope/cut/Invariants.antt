use Rattle.std.proofs.Common.{◌≡◌, length, take}
use Rattle.client_values.proofs.scope.cut.Given as goal

abbrev pub invariant-each : goal.invariant-each
invariant-each l = take l.kept l.variables ≡ take l.kept l.fn.variables

abbrev pub decreases-each : goal.decreases-each
decreases-each l = length l.variables
