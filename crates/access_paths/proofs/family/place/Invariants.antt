use Rattle.std.proofs.Common.{◌≡◌, ◌==◌, false}
use Rattle.std.specs.List.{AllWithin}
use Rattle.access_paths.proofs.family.place.Given as goal

abbrev pub invariant-each : goal.invariant-each
invariant-each l = AllWithin (λ a. (a.0 == l.number) ≡ false) l.args 0 l.before
