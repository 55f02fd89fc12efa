-- What follows at once from the laws on runs.
use Rattle.std.proofs.Common.{◌+◌, ◌-◌, length, arith}
use Rattle.std.specs.Prelude.{take}
use Rattle.client_steps.proofs.Alike.{fails_on_taken, more_keeps}
use Rattle.client_steps.proofs.Once.{runs_once}
use Rattle.client_steps.specs.Laws.{SafeBySpent, UncutIsOne}
use Rattle.client_steps.specs.Runs.{IsRun}

pub uncut_is_one : UncutIsOne
uncut_is_one form client choices budget other o p one two uncut whole =
    let more : IsRun form client choices (budget + other) o = more_keeps form client choices budget (budget + other) o one uncut (omega arith) in
    let same : IsRun form client choices (budget + other) p = more_keeps form client choices other (budget + other) p two whole (omega arith) in
    runs_once form client choices (budget + other) o p more same

pub safe_by_spent : SafeBySpent
safe_by_spent form client spent choices budget call clause left run =
    spent (take (length choices - left) choices) budget call clause (fails_on_taken form client choices budget call clause left run).1
