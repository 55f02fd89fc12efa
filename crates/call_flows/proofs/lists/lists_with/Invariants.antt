use Rattle.std.proofs.Common.{◌≡◌, take}
use Rattle.call_flows.specs.Lists.{longer}
use Rattle.call_flows.proofs.lists.lists_with.Given as goal

abbrev pub invariant-each : goal.invariant-each
invariant-each l = l.more.items ≡ longer l.options (take l.codes-index l.lists)
