use Rattle.std.proofs.Common.{◌≡◌, drop}
use Rattle.std.specs.List.{flat_map}
use Rattle.easl_model.specs.{first_with}
use Rattle.easl_model.specs.Faults.{comes_before}
use Rattle.easl_types.specs.Calls.{calls_back}
use Rattle.easl_types.proofs.cycles.calls_back.Given as goal

abbrev pub invariant-each : goal.invariant-each
invariant-each l =
    first_with comes_before l.found (flat_map (calls_back l.row l.class) (drop l.call-index l.calls))
    ≡ first_with comes_before l.fn.start (flat_map (calls_back l.row l.class) l.calls)
