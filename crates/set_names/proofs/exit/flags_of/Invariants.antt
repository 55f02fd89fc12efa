use Rattle.std.proofs.Common.{◌≡◌, map}
use Rattle.std.specs.List.{range_with_len}
use Rattle.set_names.specs.Names.{is_in}
use Rattle.set_names.proofs.exit.flags_of.Given as goal

abbrev pub invariant-each : goal.invariant-each
invariant-each l = l.flags ≡ map (is_in l.sets.now) (range_with_len 0 l.variable)
