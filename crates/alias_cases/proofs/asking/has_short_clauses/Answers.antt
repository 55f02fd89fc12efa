use Rattle.std.proofs.Common.{rules}
use Rattle.alias_cases.proofs.Asked.{long_if, short_if}
use Rattle.alias_cases.proofs.asking.has_short_clauses.Goals as goal

pub returns-clause-short : goal.returns-clause-short
returns-clause-short c = short_if c.args.method.now c.are_short.result (rw c.as_slice.ensures at c.are_short.ensures) (search rules)

pub returns-clause-long : goal.returns-clause-long
returns-clause-long c = long_if c.args.method.now c.are_short.result (rw c.as_slice.ensures at c.are_short.ensures) (search rules)
