use Rattle.std.proofs.Common.{◌≡◌, ◌≤◌, drop}
use Rattle.easl_model.specs.{field_among, fields_in}
use Rattle.easl_bodies.proofs.names.field_among.Given as goal

abbrev pub invariant-each : goal.invariant-each
invariant-each l = record {
  few : l.position ≤ l.member-index;
  left : field_among l.spec l.position (fields_in (drop l.member-index l.members)) l.name ≡ field_among l.spec 0 (fields_in l.members) l.name;
}
