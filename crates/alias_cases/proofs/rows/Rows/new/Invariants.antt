use Rattle.std.proofs.Common.{take}
use Rattle.std.specs.List.{AllZip}
use Rattle.cube_search.specs.Truths.{IsRowOf}
use Rattle.alias_cases.specs.{truths_of}
use Rattle.alias_cases.proofs.rows.Rows.new.Given as goal

abbrev pub invariant-each : goal.invariant-each
invariant-each l = AllZip (λ m row. IsRowOf (truths_of l.cases m) row) (take l.literal-index l.literals) l.rows.items
