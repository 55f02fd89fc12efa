use Rattle.std.proofs.Common.{take}
use Rattle.std.specs.List.{AllZip}
use Rattle.cube_cover.specs.{configurations_at, truths_of}
use Rattle.cube_search.specs.Truths.{IsRowOf}
use Rattle.cube_cover.proofs.table.rows_of.Given as goal

abbrev pub invariant-each : goal.invariant-each
invariant-each l =
    AllZip (λ m row. IsRowOf (truths_of l.terms (configurations_at l.cases l.care) m) row) (take l.literal-index l.literals) l.rows.items
