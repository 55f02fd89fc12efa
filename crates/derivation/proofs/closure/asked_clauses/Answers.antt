use Rattle.std.proofs.Common.{◌≡◌, ◌+◌, All, [], length, sym, subst, ◌∙◌}
use Rattle.derivation.specs.Rounds.{AreNext, IsQuestion, IsSoFar}
use Rattle.method_abstraction.specs.{clause_questions}
use Rattle.derivation.proofs.Ending.{clauses_counted, clauses_next, none_asked}
use Rattle.derivation.proofs.Questions.{clauses_asked}
use Rattle.derivation.proofs.closure.asked_clauses.Goals as goal

pub ask_all-requires-clause-questions : goal.ask_all-requires-clause-questions
ask_all-requires-clause-questions c =
    subst (All (IsQuestion c.args.spec.now c.new.result.items)) (sym (c.as_slice.ensures.value ∙ c.in_ok-questions.ensures))
    (clauses_asked c.args.spec.now c.new.result.items)

pub returns-in-Ok-clause-asked : goal.returns-in-Ok-clause-asked
returns-in-Ok-clause-asked c =
    let form = c.args.spec.now in
    let new = c.ask_all.new.found in
    let list : c.as_slice.result.now ≡ clause_questions form = c.as_slice.ensures.value ∙ c.in_ok-questions.ensures in
    let first = subst (λ fs. IsSoFar form 0 fs c.new-2.result.items c.new-3.result.items) (sym c.new.ensures.items)
    (subst (λ cs. IsSoFar form 0 [] cs c.new-3.result.items) (sym c.new-2.ensures.items)
    (subst (λ us. IsSoFar form 0 [] [] us) (sym c.new-3.ensures.items) (none_asked form))) in
    let next = subst (λ fs. AreNext form fs 0 c.as_slice.result.now) (sym c.new.ensures.items) (subst (AreNext form [] 0) (sym list) (clauses_next form)) in
    clauses_counted form new.families.items new.clauses.items new.updates.items
    (subst (λ l. IsSoFar form (0 + length l) new.families.items new.clauses.items new.updates.items) list (c.in-Ok.ensures.asked 0 first next))

pub returns-in-Err-clause-asked : goal.returns-in-Err-clause-asked
returns-in-Err-clause-asked c =
    let form = c.args.spec.now in
    let list : c.as_slice.result.now ≡ clause_questions form = c.as_slice.ensures.value ∙ c.in_ok-questions.ensures in
    let first = subst (λ fs. IsSoFar form 0 fs c.new-2.result.items c.new-3.result.items) (sym c.new.ensures.items)
    (subst (λ cs. IsSoFar form 0 [] cs c.new-3.result.items) (sym c.new-2.ensures.items)
    (subst (λ us. IsSoFar form 0 [] [] us) (sym c.new-3.ensures.items) (none_asked form))) in
    let next = subst (λ fs. AreNext form fs 0 c.as_slice.result.now) (sym c.new.ensures.items) (subst (AreNext form [] 0) (sym list) (clauses_next form)) in
    c.in-Err.ensures.asked 0 first next
