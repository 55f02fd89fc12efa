use Rattle.std.proofs.Common.{length}
use Rattle.access_paths.proofs.permutations.+orders.Given as goal

abbrev pub decreases-orders : goal.decreases-orders
decreases-orders l = length l.variables.now
