use Rattle.std.proofs.Common.{◌≡◌, ◌++◌, drop}
use Rattle.std.specs.List.{flat_map}
use Rattle.easl_model.specs.{block_of, news_in}
use Rattle.easl_types.specs.Calls.{call_of}
use Rattle.easl_types.proofs.cycles.+calls.Given as goal

abbrev pub invariant-calls_in_steps-each : goal.invariant-calls_in_steps-each
invariant-calls_in_steps-each l =
    l.calls ++ flat_map (call_of l.spec) (news_in (block_of (drop l.step-index l.steps)))
    ≡ l.fn.calls ++ flat_map (call_of l.spec) (news_in (block_of l.steps))
