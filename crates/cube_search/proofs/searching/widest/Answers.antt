use Rattle.cube_search.proofs.Steps.{sizes_next}
use Rattle.cube_search.proofs.searching.widest.Goals as goal

pub sizes-preserved : goal.sizes-preserved
sizes-preserved c = sizes_next c.args.task.now c.sizes.size c.sizes.kept.items c.search.new.kept.items c.sizes.invariant
    (rw c.new.ensures.items at c.in_ok-search.ensures)
