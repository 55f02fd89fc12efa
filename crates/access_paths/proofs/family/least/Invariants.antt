use Rattle.std.proofs.Common.{take}
use Rattle.access_paths.specs.{IsLeastAmong}
use Rattle.access_paths.proofs.family.least.Given as goal

abbrev pub invariant-each : goal.invariant-each
invariant-each l = IsLeastAmong l.cube l.classes (take l.args-index l.lists) l.least
