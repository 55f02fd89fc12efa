use Rattle.method_abstraction.proofs.Exactness.{clauses_are_exact, updates_are_exact}
use Rattle.method_abstraction.proofs.laws.entries_are_exact.Goals as goal

pub returns-clause-updates : goal.returns-clause-updates
returns-clause-updates c = λ form families n m results family ts classes tree cubes ds. updates_are_exact form families n m results family ts classes tree cubes ds

pub returns-clause-clauses : goal.returns-clause-clauses
returns-clause-clauses c = λ form families m clause ts classes tree cubes ds. clauses_are_exact form families m clause ts classes tree cubes ds
