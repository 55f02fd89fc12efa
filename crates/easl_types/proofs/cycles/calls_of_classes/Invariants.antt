use Rattle.std.proofs.Common.{◌≡◌, take}
use Rattle.easl_types.specs.Calls.{calls_of_classes}
use Rattle.easl_types.proofs.cycles.calls_of_classes.Given as goal

abbrev pub invariant-each : goal.invariant-each
invariant-each l = l.calls ≡ calls_of_classes l.spec (take l.class-index l.classes)
