use Rattle.std.proofs.Common.{[], ◌∷◌, ◌++◌, All, Contains, take}
use Rattle.step_flows.proofs.fronts.lengthened.Given as goal

abbrev pub invariant-each : goal.invariant-each
invariant-each l = All (λ args. All (λ code. Contains l.longer.items (args ++ code ∷ [])) l.codes) (take l.front-index l.fronts)
