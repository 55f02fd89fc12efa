use Rattle.std.proofs.Common.{◌≡◌, map, slice_index, take}
use Rattle.access_paths.proofs.family.classes_of.Given as goal

abbrev pub invariant-each : goal.invariant-each
invariant-each l = l.found.items ≡ map (λ a. slice_index l.classes a.0) (take l.arg-index l.args)
