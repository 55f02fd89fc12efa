use Rattle.std.proofs.Common.{◌≡◌, drop}
use Rattle.std.specs.List.{position_from}
use Rattle.client_model.specs.Lookups.{class_named, is_same}
use Rattle.client_values.proofs.names.class_named.Given as goal

-- the class is found among those that are left, if at all
abbrev pub invariant-each : goal.invariant-each
invariant-each l = position_from (λ c. is_same c.name l.fn.name) l.class (drop l.class l.fn.spec.classes) ≡ class_named l.fn.spec l.fn.name
