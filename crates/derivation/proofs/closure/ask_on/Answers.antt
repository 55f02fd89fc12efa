use Rattle.std.proofs.Common.{◌≡◌, ◌+◌, All, Some, length, slice_get, ap, sym, subst, ◌∙◌}
use Rattle.std.specs.Prelude.{MatchResult}
use Rattle.std.proofs.lemmas.Option.{slice_get-get_or}
use Rattle.access_paths.specs.{Fits}
use Rattle.method_abstraction.specs.{updates_by}
use Rattle.derivation.specs.Closing.{Stops}
use Rattle.derivation.specs.Rounds.{AreNext, IsQuestion, IsSoFar}
use Rattle.derivation.proofs.Questions.{updates_asked}
use Rattle.derivation.proofs.closure.ask_on.Goals as goal

pub ask_all-requires-clause-questions : goal.ask_all-requires-clause-questions
ask_all-requires-clause-questions c =
    let form = c.args.spec.now in
    let families = c.args.found.now.families.items in
    let f = c.index.result.now in
    let at : slice_get families c.args.number ≡ Some f = slice_get-get_or families c.args.number f c.requires.number ∙ ap Some (sym c.index.ensures) in
    let fits = subst (Fits form) (sym c.index.ensures) (c.requires.fit c.args.number f c.requires.number) in
    subst (All (IsQuestion form families)) (sym (c.as_slice.ensures.value ∙ c.in_ok-questions.ensures)) (updates_asked form families c.args.number f at fits)

pub returns-clause-asked : goal.returns-clause-asked
returns-clause-asked c n f so at are =
    let form = c.args.spec.now in
    let families = c.args.found.now.families.items in
    let new = c.ask_all.new.found in
    let here : slice_get families c.args.number ≡ Some c.index.result.now =
    slice_get-get_or families c.args.number c.index.result.now c.requires.number ∙ ap Some (sym c.index.ensures) in
    let same_some : Some c.index.result.now ≡ Some f = sym here ∙ at in
    let same : c.index.result.now ≡ f = cc in
    let list : c.as_slice.result.now ≡ updates_by c.args.number f 0 form.methods =
    c.as_slice.ensures.value ∙ c.in_ok-questions.ensures ∙ ap (λ x. updates_by c.args.number x 0 form.methods) same in
    subst (λ l. MatchResult c.ask_all.result (λ x. IsSoFar form (n + length l) new.families.items new.clauses.items new.updates.items) (Stops form)) list
    (c.ask_all.ensures.asked n so (subst (AreNext form families n) (sym list) are))
