use Rattle.client_facts.specs.Held.{setting}
use Rattle.tabulation.proofs.Answered.{fact_there}
use Rattle.tabulation.proofs.index.note_caller.Goals as goal

pub add_caller-requires : goal.add_caller-requires
add_caller-requires c =
    fact_there (setting c.args.boolean.now) c.args.edges.now c.args.at c.index-edges-at.result c.requires.sound c.requires.at c.index-edges-at.is
