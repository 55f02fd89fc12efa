use Rattle.std.proofs.Common.{length}
use Rattle.client_parser.specs.Reading.{maybe_item_at}
use Rattle.client_parser.specs.declared.whole.TheConstants.{MOST_BODIES}
use Rattle.client_parser.proofs.Gathered.{IsGathered}
use Rattle.client_parser.proofs.whole.items.Given as goal

abbrev pub invariant-each : goal.invariant-each
invariant-each l = IsGathered (maybe_item_at l.source.text.now MOST_BODIES) l.fn.end l.fn.tokens l.rest l.client

abbrev pub decreases-each : goal.decreases-each
decreases-each l = length l.rest
