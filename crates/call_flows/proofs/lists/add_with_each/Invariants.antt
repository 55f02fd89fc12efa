use Rattle.std.proofs.Common.{◌≡◌, ◌++◌, take}
use Rattle.call_flows.specs.Lists.{with_each}
use Rattle.call_flows.proofs.lists.add_with_each.Given as goal

abbrev pub invariant-each : goal.invariant-each
invariant-each l = l.lists.items ≡ l.fn.lists.items ++ with_each (take l.option-index l.options) l.codes
