use Rattle.std.proofs.Common.{◌+◌}
use Rattle.method_abstraction.specs.declared.entry.Question.TheVariants.{Clause}
use Rattle.derivation.proofs.Rounds.{longer_more, next_at, one_asked, question_at}
use Rattle.derivation.proofs.closure.ask_all.Goals as goal

pub ask_next-requires-clause-question : goal.ask_next-requires-clause-question
ask_next-requires-clause-question c =
    question_at c.args.spec.now c.args.found.now.families.items c.each.found.families.items c.args.questions.now c.each.question-index (Clause 0 0)
    c.each.invariant.longer c.requires.questions c.each-test.true

pub each-preserved : goal.each-preserved
each-preserved c =
    let form = c.args.spec.now in
    let first = c.args.found.now.families.items in
    let k = c.each.question-index in
    let new = c.ask_next.new.found in
    record {
      so_far = λ n so are. one_asked form n k new.families.items new.clauses.items new.updates.items
          (c.in-Ok.ensures.asked (n + k) (c.each.invariant.so_far n so are)
          (next_at form first c.each.found.families.items n c.args.questions.now k (Clause 0 0) c.each.invariant.longer are c.each-test.true));
      longer = longer_more first c.each.found.families.items new.families.items c.each.invariant.longer c.in-Ok.ensures.longer;
      few = c.in-Ok.ensures.few;
    }

pub returns-in-Err-clause-asked : goal.returns-in-Err-clause-asked
returns-in-Err-clause-asked c n so are =
    c.in-Err.ensures.asked (n + c.each.question-index) (c.each.invariant.so_far n so are)
    (next_at c.args.spec.now c.args.found.now.families.items c.each.found.families.items n c.args.questions.now c.each.question-index (Clause 0 0)
    c.each.invariant.longer are c.each-test.true)
