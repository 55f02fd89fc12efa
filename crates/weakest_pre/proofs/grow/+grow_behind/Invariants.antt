use Rattle.weakest_pre.proofs.grow.+grow_behind.Given as goal

abbrev pub decreases-grow_behind : goal.decreases-grow_behind
decreases-grow_behind g l = l.depth
