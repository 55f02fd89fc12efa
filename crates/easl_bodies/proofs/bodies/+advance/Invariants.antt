use Rattle.std.proofs.Common.{◌≡◌, drop}
use Rattle.easl_model.specs.{after_all, block_of}
use Rattle.easl_bodies.proofs.bodies.+advance.Given as goal

abbrev pub invariant-behind_all-each : goal.invariant-behind_all-each
invariant-behind_all-each l = after_all l.spec l.behind (block_of (drop l.step-index l.steps)) ≡ after_all l.spec l.context (block_of l.steps)
