use Rattle.std.proofs.Common.{◌≡◌, drop, map}
use Rattle.std.specs.List.{list_all}
use Rattle.easl_model.specs.{condition_of}
use Rattle.case_model.specs.Care as told
use Rattle.case_model.specs.{by_blocks}
use Rattle.cube_cover.proofs.clauses.are_true.Given as goal

-- what is left gives what the whole gives
abbrev pub invariant-each : goal.invariant-each
invariant-each l =
    list_all (told.condition_holds l.first (by_blocks l.terms l.blocks)) (map condition_of (drop l.clause-index l.clauses))
    ≡ list_all (told.condition_holds l.first (by_blocks l.terms l.blocks)) (map condition_of l.clauses)
