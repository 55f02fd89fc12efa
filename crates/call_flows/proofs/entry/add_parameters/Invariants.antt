use Rattle.std.proofs.Common.{◌≡◌, ◌<◌, ℕ}
use Rattle.std.specs.Prelude.{Contains, Some, slice_get}
use Rattle.client_model.specs.Codes.{variable_code}
use Rattle.call_flows.proofs.entry.add_parameters.Given as goal

abbrev pub invariant-each : goal.invariant-each
invariant-each l = record {
  kept : (a : ℕ) → Contains l.fn.offers a → Contains l.offers a;
  taken : (j : ℕ) → j < l.number → slice_get l.site.args.now j ≡ Some (Some l.code) → Contains l.offers (variable_code j);
}
