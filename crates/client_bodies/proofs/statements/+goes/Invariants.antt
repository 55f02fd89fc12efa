use Rattle.std.proofs.Common.{◌≡◌, drop}
use Rattle.client_bodies.specs.Walking.{block}
use Rattle.client_model.specs.Contexts.{block_goes_on}
use Rattle.client_bodies.proofs.statements.+goes.Given as goal

abbrev pub invariant-all_go_on-each : goal.invariant-all_go_on-each
invariant-all_go_on-each l = block_goes_on l.on (block (drop l.item-index l.items)) ≡ block_goes_on l.before (block l.items)
