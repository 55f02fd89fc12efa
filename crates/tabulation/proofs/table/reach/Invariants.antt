use Rattle.std.proofs.Common.{◌≡◌, ℕ, ◌+◌, ◌-◌, length}
use Rattle.client_facts.specs.NameLists.{at_class, lists_in}
use Rattle.tabulation.proofs.table.reach.Given as goal

abbrev pub invariant-each : goal.invariant-each
invariant-each l = (other : ℕ) → at_class (lists_in l.lists.items) other ≡ at_class (lists_in l.fn.lists.items) other

abbrev pub decreases-each : goal.decreases-each
decreases-each l = l.number + 1 - length l.lists.items
