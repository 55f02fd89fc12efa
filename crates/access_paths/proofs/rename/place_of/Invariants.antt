use Rattle.std.proofs.Common.{◌≡◌}
use Rattle.std.specs.List.{AllWithin}
use Rattle.std.specs.declared.cmp.Ordering.TheVariants.{Less}
use Rattle.access_paths.specs.{compare_literals}
use Rattle.access_paths.proofs.rename.place_of.Given as goal

abbrev pub invariant-each : goal.invariant-each
invariant-each l = AllWithin (λ m. compare_literals m l.literal ≡ Less) l.literals 0 l.before
