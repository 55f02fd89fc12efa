use Rattle.std.proofs.Common.{◌≡◌, ◌++◌, drop}
use Rattle.easl_model.specs.{positions_along, reach_of}
use Rattle.easl_types.proofs.form.reach_of.Given as goal

abbrev pub invariant-each : goal.invariant-each
invariant-each l = record {
  slot : l.slot ≡ (reach_of l.spec l.context l.path).slot;
  fields : l.fields ++ positions_along l.spec l.target (drop l.word-index l.path.fields) ≡ (reach_of l.spec l.context l.path).fields;
}
