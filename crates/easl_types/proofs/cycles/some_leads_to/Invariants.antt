use Rattle.std.proofs.Common.{◌≡◌, drop}
use Rattle.std.specs.List.{list_any}
use Rattle.easl_types.specs.Calls.{leads_to}
use Rattle.easl_types.proofs.cycles.some_leads_to.Given as goal

abbrev pub invariant-each : goal.invariant-each
invariant-each l = list_any (leads_to l.row l.other) (drop l.call-index l.calls) ≡ list_any (leads_to l.row l.other) l.calls
