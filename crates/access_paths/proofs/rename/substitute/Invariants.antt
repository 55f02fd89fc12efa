use Rattle.std.proofs.Common.{take}
use Rattle.access_paths.specs.{AreRenamed, variable_in}
use Rattle.access_paths.proofs.rename.substitute.Given as goal

abbrev pub invariant-each : goal.invariant-each
invariant-each l = AreRenamed (variable_in l.vars) (take l.literal-index l.literal-items) l.literals.items
