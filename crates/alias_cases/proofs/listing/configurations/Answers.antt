use Rattle.std.proofs.Common.{rules, arith, subst, sym, length-append, add-one}
use Rattle.std.proofs.lemmas.Slice.Zip.{zip_end, zip_turn}
use Rattle.case_model.specs.{AreConfigurations, AreMoreThan, IsTermList}
use Rattle.alias_cases.specs.{AreSteps, IsClosed}
use Rattle.alias_cases.proofs.Ladders.{closed}
use Rattle.alias_cases.proofs.Levels.{first_level}
use Rattle.alias_cases.proofs.Turns.{level_end, level_over, level_turn}
use Rattle.alias_cases.proofs.listing.configurations.Goals as goal

pub steps_to-requires : goal.steps_to-requires
steps_to-requires c = subst IsClosed (sym c.as_slice.ensures) (closed c.args.terms.now.list c.args.terms.now.classes c.requires)

pub each-init : goal.each-init
each-init c = record {
  level = rw c.in_ok-push.ensures.ok (rw (c.new-level.ensures, c.new.ensures) (first_level c.as_slice-steps.result.now c.as_slice-classes.result.now));
  few = rw c.in_ok-push.ensures.ok (rw (c.new-level.ensures) (omega arith));
}

pub returns-in_err-level-clause-over : goal.returns-in_err-level-clause-over
returns-in_err-level-clause-over c = λ is.
    let turn = zip_turn c.as_slice-steps.result.now c.as_slice-classes.result.now c.each.yielded c.into_iter-step-iterator.result c.each.step-iterator c.next.new.self c.next.result (search rules) (search rules) c.each.yielded_by (c.in-Some.step, c.in-Some.class) c.in-Some.is c.next.ensures.steps in
    let many = c.in_err-level.ensures.over (search rules) in
    subst (AreMoreThan 65536 c.args.terms.now.list) c.as_slice-classes.ensures
    (level_over c.args.terms.now.list c.as_slice-classes.result.now (subst (IsTermList c.args.terms.now.list) (sym c.as_slice-classes.ensures) c.requires)
    c.as_slice-steps.result.now (rw c.as_slice-steps.ensures.value (subst (λ ts. AreSteps ts c.in_ok-found.found.items) c.as_slice.ensures c.in_ok-found.ensures))
    _ c.each.level c.each.invariant.level c.in-Some.step.now c.in-Some.class.now turn.0 (turn.2 c.in-Some.step.now) (turn.3 0)
    65536 (rw c.as_slice-in-each.ensures at many))

pub each-preserved : goal.each-preserved
each-preserved c =
    let turn = zip_turn c.as_slice-steps.result.now c.as_slice-classes.result.now c.each.yielded c.into_iter-step-iterator.result c.each.step-iterator c.next.new.self c.next.result (search rules) (search rules) c.each.yielded_by (c.in-Some.step, c.in-Some.class) c.in-Some.is c.next.ensures.steps in
    let next = level_turn c.args.terms.now.list c.as_slice-classes.result.now (subst (IsTermList c.args.terms.now.list) (sym c.as_slice-classes.ensures) c.requires)
    c.as_slice-steps.result.now (rw c.as_slice-steps.ensures.value (subst (λ ts. AreSteps ts c.in_ok-found.found.items) c.as_slice.ensures c.in_ok-found.ensures))
    _ c.each.level c.each.invariant.level c.in-Some.step.now c.in-Some.class.now turn.0 (turn.2 c.in-Some.step.now) (turn.3 0) in
    record { level = rw (c.in_ok-level.ensures.ok, c.as_slice-in-each.ensures) (rw length-append (rw add-one next)); few = c.in_ok-level.ensures.few }

pub returns-clause-whole : goal.returns-clause-whole
returns-clause-whole c =
    subst (λ classes. AreConfigurations c.args.terms.now.list classes c.each.level) c.as_slice-classes.ensures
    (level_end c.args.terms.now.list c.as_slice-classes.result.now (subst (IsTermList c.args.terms.now.list) (sym c.as_slice-classes.ensures) c.requires)
    c.as_slice-steps.result.now (rw c.as_slice-steps.ensures.value (subst (λ ts. AreSteps ts c.in_ok-found.found.items) c.as_slice.ensures c.in_ok-found.ensures))
    _ c.each.level c.each.invariant.level
    (zip_end c.as_slice-steps.result.now c.as_slice-classes.result.now c.each.yielded c.into_iter-step-iterator.result c.each.step-iterator c.next.new.self c.next.result (search rules) (search rules) c.each.yielded_by c.in-None.is c.next.ensures.steps))

pub returns-clause-few : goal.returns-clause-few
returns-clause-few c = c.each.invariant.few
