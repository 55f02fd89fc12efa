use Rattle.std.proofs.Common.{[], ◌∷◌}
use Rattle.case_model.specs.{term_of}
use Rattle.alias_cases.proofs.Gathered.{gathers-both}
use Rattle.alias_cases.proofs.clauses.gather_sides.Goals as goal

pub returns : goal.returns
returns c =
    gathers-both (term_of 3 c.args.left.now ∷ []) (term_of 3 c.args.right.now ∷ []) c.args.list.now.items c.gather.new.list.items c.gather-2.new.list.items
    (rw c.in_ok-first.ensures at c.in_ok-gather.ensures)
    (rw c.in_ok-second.ensures at c.in_ok-gather-2.ensures)
