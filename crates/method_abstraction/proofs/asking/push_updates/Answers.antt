use Rattle.std.proofs.Common.{◌∷◌, [], ◌++◌, cond, ap, ◌∙◌}
use Rattle.method_abstraction.specs.{may_stand}
use Rattle.method_abstraction.specs.declared.entry.Question.TheVariants.{Update}
use Rattle.method_abstraction.proofs.Asked.{all_picked, one_more_picked}
use Rattle.method_abstraction.proofs.asking.push_updates.Goals as goal

pub each-preserved : goal.each-preserved
each-preserved c =
    one_more_picked (may_stand c.args.method.now c.args.family.now) (λ results. Update c.args.number results c.args.family_number) c.each.results 8 _ _ _
    c.each-test.true
    (c.in_ok-push_where.ensures
    ∙ ap (λ b. c.each.questions.items ++ cond b (Update c.args.number c.each.results c.args.family_number ∷ []) []) c.may_stand.ensures)
    c.each.invariant

pub returns : goal.returns
returns c =
    all_picked (may_stand c.args.method.now c.args.family.now) (λ results. Update c.args.number results c.args.family_number) c.each.results 8 _ _
    c.each-test.false c.each.invariant
