use Rattle.std.proofs.Common.{◌≡◌, drop}
use Rattle.std.specs.List.{position_from}
use Rattle.easl_model.specs.{is_same}
use Rattle.easl_bodies.proofs.names.class_among.Given as goal

abbrev pub invariant-each : goal.invariant-each
invariant-each l = position_from (λ c. is_same c.name.name l.name) l.at (drop l.at l.classes) ≡ position_from (λ c. is_same c.name.name l.name) 0 l.classes
