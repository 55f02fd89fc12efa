use Rattle.std.proofs.Common.{◌≡◌, ◌++◌, drop}
use Rattle.easl_model.specs.{acts_of, after_all, block_of}
use Rattle.easl_types.proofs.form.+acts.Given as goal

abbrev pub invariant-acts_of-each : goal.invariant-acts_of-each
invariant-acts_of-each l = record {
  acts : l.acts ++ acts_of l.spec l.context (block_of (drop l.step-index l.steps)) ≡ acts_of l.spec l.fn.context (block_of l.steps);
  behind : after_all l.spec l.context (block_of (drop l.step-index l.steps)) ≡ after_all l.spec l.fn.context (block_of l.steps);
}
