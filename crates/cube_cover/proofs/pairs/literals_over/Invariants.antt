use Rattle.std.proofs.Common.{◌≡◌, ◌++◌, drop}
use Rattle.cube_cover.specs.Literals as told
use Rattle.cube_cover.proofs.pairs.literals_over.Given as goal

-- what was found, with what is found in the rest
abbrev pub invariant-each : goal.invariant-each
invariant-each l = l.literals.items ++ told.literals_over (drop l.place l.terms) (drop l.place l.classes) ≡ told.literals_over l.terms l.classes
