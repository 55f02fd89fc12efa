use Rattle.std.proofs.Common.{length, ◌-◌}
use Rattle.cv_lex.proofs.Quotes.{Inside}
use Rattle.cv_lex.proofs.quoted.quoted_length.Given as goal

abbrev pub invariant-each : goal.invariant-each
invariant-each l = Inside l.characters l.at

abbrev pub decreases-each : goal.decreases-each
decreases-each l = length l.characters - l.at
