use Rattle.std.proofs.Common.{length, sym, subst}
use Rattle.method_abstraction.specs.{questions}
use Rattle.derivation.specs.Rounds.{IsSoFar}
use Rattle.derivation.proofs.Ending.{all_closed}
use Rattle.derivation.proofs.Entries.{closed_is_exact}
use Rattle.derivation.proofs.closure.closed.Goals as goal

pub returns-in-Ok-clause-closes : goal.returns-in-Ok-clause-closes
returns-in-Ok-clause-closes c =
    let form = c.args.spec.now in
    let new = c.ask_families.new.found in
    let clauses = c.from_vec-in-Ok.result in
    let updates = c.from_vec-in-Ok-2.result in
    let all = length (questions form new.families.items) in
    all_closed form (record { families = c.from_vec.result; clauses = clauses; updates = updates })
    (subst (λ fs. IsSoFar form (length (questions form fs)) fs clauses updates) (sym c.from_vec.ensures)
    (subst (λ cs. IsSoFar form all new.families.items cs updates) (sym c.from_vec-in-Ok.ensures)
    (subst (λ us. IsSoFar form all new.families.items new.clauses.items us) (sym c.from_vec-in-Ok-2.ensures) c.in-Ok.ensures)))

pub returns-in-Ok-clause-exact : goal.returns-in-Ok-clause-exact
returns-in-Ok-clause-exact c =
    closed_is_exact c.args.spec.now c.is_kept.ensures.checked
    (record { families = c.from_vec.result; clauses = c.from_vec-in-Ok.result; updates = c.from_vec-in-Ok-2.result }) (returns-in-Ok-clause-closes c)
