use Rattle.std.proofs.Common.{arith}
use Rattle.client_facts.specs.Held.{setting}
use Rattle.tabulation.proofs.Answered.{fact_there}
use Rattle.tabulation.proofs.successors.successors.Goals as goal

pub add_steps-requires : goal.add_steps-requires
add_steps-requires c =
    fact_there (setting c.args.boolean.now) c.args.edges.now c.args.at c.index-edges-at.result c.requires.sound c.requires.at c.index-edges-at.is

pub add_entries-requires : goal.add_entries-requires
add_entries-requires c =
    fact_there (setting c.args.boolean.now) c.args.edges.now c.args.at c.index-edges-at.result c.requires.sound c.requires.at c.index-edges-at.is

pub add_from_exits-requires-clause-within : goal.add_from_exits-requires-clause-within
add_from_exits-requires-clause-within c j has = omega (arith, c.requires.left.below j has, c.requires.at)

pub add_to_callers-requires : goal.add_to_callers-requires
add_to_callers-requires c j has = omega (arith, c.requires.called.below j has, c.requires.at)

pub add_from_exits-requires-clause-fact : goal.add_from_exits-requires-clause-fact
add_from_exits-requires-clause-fact c =
    fact_there (setting c.args.boolean.now) c.args.edges.now c.args.at c.index-edges-at.result c.requires.sound c.requires.at c.index-edges-at.is
