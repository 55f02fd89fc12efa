use Rattle.std.proofs.Common.{◌≡◌, ◌++◌, drop}
use Rattle.std.specs.List.{flat_map}
use Rattle.method_abstraction.specs.{update_line}
use Rattle.method_abstraction.proofs.print.push_updates.Given as goal

abbrev pub invariant-each : goal.invariant-each
invariant-each l =
    l.out.items ++ flat_map (update_line l.spec l.families) (drop l.entry-index l.updates)
    ≡ l.initial.out.items ++ flat_map (update_line l.spec l.families) l.updates
