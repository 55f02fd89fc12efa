use Rattle.std.proofs.Common.{arith, refl}
use Rattle.alias_cases.proofs.Marked.{none_met, none_more, some_met}
use Rattle.alias_cases.proofs.rows.Rows.meets.Goals as goal

pub returns-then-left_of-ne0 : goal.returns-then-left_of-ne0
returns-then-left_of-ne0 c = λ cases given of. (
  (λ e. some_met cases given c.args.self.now c.args.literals.now c.args.chosen.now c.each.word c.left_of.result of
      c.requires.literals c.requires.chosen (omega (arith, c.left_of.type_inv)) c.if-left_of-ne0.true (rw c.deref.ensures.value at c.left_of.ensures)),
  (λ met. refl),
)

pub each-preserved : goal.each-preserved
each-preserved c =
    none_more c.args.self.now.rows.items c.args.literals.now c.args.chosen.now c.each.word c.left_of.result (omega (arith, c.if-left_of-ne0.false))
    (rw c.deref.ensures.value at c.left_of.ensures) c.each.invariant

pub returns : goal.returns
returns c = λ cases given of. (
  (λ e. absurd (cc)),
  (λ met. absurd (none_met cases given c.args.self.now c.args.literals.now c.args.chosen.now c.each.word of c.requires.literals (omega (arith, c.each-test.false)) c.each.invariant met)),
)
