use Rattle.derivation.proofs.Exactness.{clause_replies_are_exact, update_replies_are_exact}
use Rattle.derivation.proofs.laws.replies_are_exact.Goals as goal

pub returns-clause-updates : goal.returns-clause-updates
returns-clause-updates c = λ form n m family results r families ds. update_replies_are_exact form n m family results r families ds

pub returns-clause-clauses : goal.returns-clause-clauses
returns-clause-clauses c = λ form m clause r families ds. clause_replies_are_exact form m clause r families ds
