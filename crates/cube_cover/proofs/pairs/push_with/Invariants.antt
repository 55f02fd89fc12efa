use Rattle.std.proofs.Common.{◌≡◌, ◌++◌, drop}
use Rattle.cube_cover.specs.Literals as told
use Rattle.cube_cover.proofs.pairs.push_with.Given as goal

-- what was found, with what is found in the rest
abbrev pub invariant-each : goal.invariant-each
invariant-each l =
    l.literals.items ++ told.literals_with l.term l.class (drop l.place l.others) (drop l.place l.classes)
    ≡ l.initial.literals.items ++ told.literals_with l.term l.class l.others l.classes
