use Rattle.alias_cases.proofs.Marked.{AreNotMet}
use Rattle.alias_cases.proofs.rows.Rows.meets.Given as goal

abbrev pub invariant-each : goal.invariant-each
invariant-each l = AreNotMet l.self.rows.items l.literals l.chosen l.word
