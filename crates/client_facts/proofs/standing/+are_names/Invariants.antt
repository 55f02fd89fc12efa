use Rattle.std.proofs.Common.{length}
use Rattle.client_facts.proofs.standing.+are_names.Given as goal

abbrev pub decreases-are_names : goal.decreases-are_names
decreases-are_names l = length l.classes.now
