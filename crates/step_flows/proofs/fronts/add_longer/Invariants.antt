use Rattle.std.proofs.Common.{ℕ, List, [], ◌∷◌, ◌++◌, All, Contains, take}
use Rattle.step_flows.proofs.fronts.add_longer.Given as goal

abbrev pub invariant-each : goal.invariant-each
invariant-each l = record {
  kept : (args : List ℕ) → Contains l.initial.longer.items args → Contains l.longer.items args;
  added : All (λ code. Contains l.longer.items (l.front ++ code ∷ [])) (take l.code-index l.codes);
}
