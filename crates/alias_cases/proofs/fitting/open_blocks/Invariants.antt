use Rattle.std.proofs.Common.{◌≡◌, ◌++◌, drop, length}
use Rattle.alias_cases.specs.{open_blocks}
use Rattle.alias_cases.proofs.fitting.open_blocks.Given as goal

-- what was found, with what is found in the rest
abbrev pub invariant-each : goal.invariant-each
invariant-each l =
    l.found.items ++ open_blocks l.class l.next (drop (length l.yielded) l.classes) (drop (length l.yielded) l.blocks)
    ≡ open_blocks l.class 0 l.classes l.blocks
