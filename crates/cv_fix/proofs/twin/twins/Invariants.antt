use Rattle.std.proofs.Common.{◌≡◌, take}
use Rattle.cv_fix.proofs.twin.twins.Given as goal

abbrev pub invariant-each : goal.invariant-each
invariant-each g l = l.made.items ≡ take l.item-index l.items
