use Rattle.std.proofs.Common.{◌≡◌, ◌++◌, map, take, unwrap_or}
use Rattle.derivation.proofs.chosen.add_parameters.Given as goal

abbrev pub invariant-each : goal.invariant-each
invariant-each l = l.classes.items ≡ l.initial.classes.items ++ map (λ c. unwrap_or c 0) (take l.class-index l.params)
