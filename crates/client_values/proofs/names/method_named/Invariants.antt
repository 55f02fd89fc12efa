use Rattle.std.proofs.Common.{◌≡◌, drop}
use Rattle.std.specs.List.{position_from}
use Rattle.std.specs.Prelude.{◌&&◌, ◌==◌, not}
use Rattle.client_model.specs.Lookups.{is_same, method_named}
use Rattle.client_values.proofs.names.method_named.Given as goal

-- the method is found among those that are left, if at all
abbrev pub invariant-each : goal.invariant-each
invariant-each l = position_from (λ m. not m.constructor && (m.class == l.fn.class) && is_same m.name l.fn.name) l.number
    (drop l.number l.fn.spec.methods) ≡ method_named l.fn.spec l.fn.class l.fn.name
