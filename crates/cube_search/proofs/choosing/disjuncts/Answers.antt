use Rattle.cube_search.proofs.Chosen.{disjuncts_chosen, enough_within}
use Rattle.cube_search.proofs.choosing.disjuncts.Goals as goal

pub returns-clause-chosen : goal.returns-clause-chosen
returns-clause-chosen c =
    disjuncts_chosen c.args.task.now c.args.none c.in_ok-kept.kept.items c.in_ok-cubes.cubes.items c.requires.empty c.requires.long
    c.in_ok-kept.ensures c.in_ok-cubes.ensures.chosen

pub returns-clause-enough : goal.returns-clause-enough
returns-clause-enough c =
    enough_within c.args.task.now c.args.none c.in_ok-cubes.cubes.items c.requires.empty c.requires.long (returns-clause-chosen c)
    c.in_ok-cubes.covered c.in_ok-cubes.ensures.covered c.is_within-is_enough.result c.is_within-is_enough.ensures
