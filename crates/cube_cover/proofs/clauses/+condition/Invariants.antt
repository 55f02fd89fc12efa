use Rattle.std.proofs.Common.{◌≡◌, drop, map}
use Rattle.easl_model.specs.{condition_of, conditions}
use Rattle.case_model.specs.Care as told
use Rattle.case_model.specs.{by_blocks}
use Rattle.cube_cover.proofs.clauses.+condition.Given as goal

-- what is left gives what the whole gives
abbrev pub invariant-all_hold-each : goal.invariant-all_hold-each
invariant-all_hold-each l =
    told.all_hold l.first (by_blocks l.terms l.blocks) (conditions (map condition_of (drop l.test-index l.tests)))
    ≡ told.all_hold l.first (by_blocks l.terms l.blocks) (conditions (map condition_of l.tests))

abbrev pub invariant-any_holds-each : goal.invariant-any_holds-each
invariant-any_holds-each l =
    told.any_holds l.first (by_blocks l.terms l.blocks) (conditions (map condition_of (drop l.test-index l.tests)))
    ≡ told.any_holds l.first (by_blocks l.terms l.blocks) (conditions (map condition_of l.tests))
