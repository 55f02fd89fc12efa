use Rattle.std.proofs.Common.{◌≡◌, drop}
use Rattle.std.specs.List.{list_any}
use Rattle.client_run.proofs.straight.have_call_or_test.Given as goal
use Rattle.client_run.specs.Straight.{calls_or_tests}

-- the points that are left have a call or a test exactly where all have
abbrev pub invariant-each : goal.invariant-each
invariant-each l = list_any calls_or_tests (drop l.point-index l.points) ≡ list_any calls_or_tests l.points
