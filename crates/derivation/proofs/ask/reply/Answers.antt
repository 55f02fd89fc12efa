use Rattle.std.proofs.Common.{◌≡◌, All, Some, Err, ap, sym, subst, ◌∙◌}
use Rattle.std.specs.List.{AllZip}
use Rattle.std.specs.Option.{option_copied}
use Rattle.access_paths.specs.{HasKnownVariables, IsCube}
use Rattle.cube_cover.specs.{configurations_at}
use Rattle.derivation.specs.Replies.{IsPredicateOf, classes_by_number}
use Rattle.derivation.proofs.Replying.{are_cases, chosen_cubes, chosen_known, comes_to, has_tree, is_reply, with_clauses}
use Rattle.derivation.proofs.ask.reply.Goals as goal

pub counted-requires-clause-cases : goal.counted-requires-clause-cases
counted-requires-clause-cases c = are_cases _ _ _ _ _ (c.in_ok-cases.ensures c.method-called.result.now c.method-called.ensures.value)

pub counted-requires-clause-terms : goal.counted-requires-clause-terms
counted-requires-clause-terms c =
    with_clauses _ _ _ _ _ _ (c.in_ok-cases.ensures c.method-called.result.now c.method-called.ensures.value) c.method-called.ensures.value

pub disjuncts-requires-clause-cases : goal.disjuncts-requires-clause-cases
disjuncts-requires-clause-cases c = are_cases _ _ _ _ _ (c.in_ok-cases.ensures c.method-called.result.now c.method-called.ensures.value)

pub disjuncts-requires-clause-terms : goal.disjuncts-requires-clause-terms
disjuncts-requires-clause-terms c = has_tree _ _ _ _ _ (c.in_ok-cases.ensures c.method-called.result.now c.method-called.ensures.value)

pub returns-in_err-cubes : goal.returns-in_err-cubes
returns-in_err-cubes c m at =
    comes_to _ _ _ _ _ (c.in_ok-cases.ensures m at) c.in_err-cubes.field-0.0 c.from_residual-in_err-cubes.result c.as_slice.result.now
    c.from_residual-in_err-cubes.ensures.1
    (ap (configurations_at c.in_ok-cases.cases.list) c.as_slice.ensures.value ∙ c.in_ok-care.ensures.counted m at)
    (λ e. c.in_err-cubes.ensures.cover (ap Err e))

pub predicates-requires-clause-cubes : goal.predicates-requires-clause-cubes
predicates-requires-clause-cubes c =
    subst (All IsCube) (sym c.as_slice-2.ensures.value) (chosen_cubes _ _ _ _ c.in_ok-cubes.ensures.chosen)

pub predicates-requires-clause-known : goal.predicates-requires-clause-known
predicates-requires-clause-known c =
    let its = c.in_ok-cases.ensures c.method-called.result.now c.method-called.ensures.value in
    subst (All HasKnownVariables) (sym c.as_slice-2.ensures.value)
    (chosen_known c.args.spec.now c.method-called.result.now (option_copied c.args.family) c.in_ok-cases.cases.terms.list c.in_ok-cases.cases.terms.classes
    c.method-called.ensures.in_range.few its.list.typed _ _ _ c.in_ok-cubes.ensures.chosen)

pub returns : goal.returns
returns c m at =
    let called : Some c.method-called.result.now ≡ Some m = sym c.method-called.ensures.value ∙ at in
    let same : c.method-called.result.now ≡ m = cc in
    let classes : c.as_slice-3.result.now ≡ classes_by_number m (option_copied c.args.family) =
    c.as_slice-3.ensures.value ∙ c.in_ok-classes.ensures ∙ ap (λ x. classes_by_number x (option_copied c.args.family)) same in
    is_reply _ _ _ _ _ (c.in_ok-cases.ensures m at) c.as_slice.result.now c.in_ok-cubes.cubes.items _
    (ap (configurations_at c.in_ok-cases.cases.list) c.as_slice.ensures.value ∙ c.in_ok-care.ensures.counted m at)
    c.in_ok-cubes.ensures.chosen c.in_ok-cubes.ensures.whole
    (subst (λ cubes. AllZip (IsPredicateOf (classes_by_number m (option_copied c.args.family))) cubes c.in_ok-predicates.field-0) c.as_slice-2.ensures.value
    (subst (λ l. AllZip (IsPredicateOf l) c.as_slice-2.result.now c.in_ok-predicates.field-0) classes c.in_ok-predicates.ensures))
    c.len.ensures c.len-2.ensures
