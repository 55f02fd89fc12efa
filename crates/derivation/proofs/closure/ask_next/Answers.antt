use Rattle.std.proofs.Common.{◌+◌, ◌++◌, sym, subst}
use Rattle.derivation.specs.Rounds.{IsSoFar, clause_entry}
use Rattle.derivation.proofs.Meeting.{meets_front}
use Rattle.derivation.proofs.Rounds.{asked_next}
use Rattle.derivation.proofs.closure.ask_next.Goals as goal

pub returns-in_ok-put-in-Ok-clause-asked : goal.returns-in_ok-put-in-Ok-clause-asked
returns-in_ok-put-in-Ok-clause-asked c n so_far at =
    let form = c.args.spec.now in
    let found = c.args.found.now in
    let after = c.entry.new.families.items in
    let ds = c.in-Ok.disjuncts in
    let done = asked_next form n found.families.items found.clauses.items found.updates.items so_far c.args.question at after ds c.in-Ok.ensures in
    subst (λ l. IsSoFar form (n + 1) after l c.put.new.updates.items) (sym c.in_ok-put-in-Ok.ensures.clauses)
    (subst (λ l. IsSoFar form (n + 1) after (found.clauses.items ++ clause_entry c.args.question ds) l) (sym c.in_ok-put-in-Ok.ensures.updates) done)

pub returns-in_ok-put-in-Ok-clause-longer : goal.returns-in_ok-put-in-Ok-clause-longer
returns-in_ok-put-in-Ok-clause-longer c =
    meets_front c.args.found.now.families.items c.in-Ok.ensures.0.disjuncts c.entry.new.families.items c.in-Ok.ensures.2
