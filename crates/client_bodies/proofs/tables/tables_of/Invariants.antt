use Rattle.std.proofs.Common.{◌≡◌, drop, map}
use Rattle.client_bodies.specs.InTextOrder.{headers_in_end, statics_in_end}
use Rattle.client_model.specs.Settings.{header_of, statics_from}
use Rattle.client_model.specs.Trees.{client_of, procedures_in, statics_in}
use Rattle.client_bodies.proofs.tables.tables_of.Given as goal

abbrev pub invariant-each : goal.invariant-each
invariant-each l = record {
  statics : statics_in_end l.spec l.client l.tables (drop l.is_static-index l.client.order) ≡ statics_from l.spec 0 (statics_in (client_of l.client).items);
  headers : headers_in_end l.spec l.client l.tables (drop l.is_static-index l.client.order) ≡ map (header_of l.spec) (procedures_in (client_of l.client).items);
}
