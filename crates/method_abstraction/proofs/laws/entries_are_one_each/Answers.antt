use Rattle.method_abstraction.proofs.Entries.{one_entry_each}
use Rattle.method_abstraction.proofs.laws.entries_are_one_each.Goals as goal

pub returns : goal.returns
returns c = one_entry_each
