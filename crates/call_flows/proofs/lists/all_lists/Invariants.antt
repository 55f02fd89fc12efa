use Rattle.std.proofs.Common.{◌≡◌, [], ◌∷◌, drop}
use Rattle.call_flows.specs.Lists.{product_from}
use Rattle.call_flows.proofs.lists.all_lists.Given as goal

-- with the places that are left they become all lists
abbrev pub invariant-each : goal.invariant-each
invariant-each l = product_from l.lists.items (drop l.options-index l.places) ≡ product_from ([] ∷ []) l.places
