use Rattle.std.proofs.Common.{◌≡◌, ◌++◌, drop}
use Rattle.std.specs.List.{flat_map}
use Rattle.method_abstraction.specs.{clause_line}
use Rattle.method_abstraction.proofs.print.push_clauses.Given as goal

abbrev pub invariant-each : goal.invariant-each
invariant-each l =
    l.out.items ++ flat_map (clause_line l.spec) (drop l.entry-index l.clauses)
    ≡ l.initial.out.items ++ flat_map (clause_line l.spec) l.clauses
