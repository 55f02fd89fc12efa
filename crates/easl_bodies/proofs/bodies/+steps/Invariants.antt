use Rattle.std.proofs.Common.{◌≡◌, drop}
use Rattle.easl_model.specs.{after_all, block_of, faults_of_block, first_with}
use Rattle.easl_model.specs.Faults.{comes_before}
use Rattle.easl_bodies.proofs.bodies.+steps.Given as goal

abbrev pub invariant-faults_of_steps-each : goal.invariant-faults_of_steps-each
invariant-faults_of_steps-each l = record {
  found : first_with comes_before l.found (faults_of_block l.spec l.context (block_of (drop l.step-index l.steps))) ≡ first_with comes_before l.fn.start (faults_of_block l.spec l.fn.context (block_of l.steps));
  behind : after_all l.spec l.context (block_of (drop l.step-index l.steps)) ≡ after_all l.spec l.fn.context (block_of l.steps);
}
