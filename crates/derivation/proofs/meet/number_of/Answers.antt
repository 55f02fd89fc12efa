use Rattle.std.proofs.Common.{sym, subst, ◌∙◌, Contains}
use Rattle.std.proofs.lemmas.List.{take_all}
use Rattle.derivation.proofs.Meeting.{found_here, not_here}
use Rattle.derivation.proofs.meet.number_of.Goals as goal

pub returns-then-eq : goal.returns-then-eq
returns-then-eq c =
    found_here _ c.each.number c.index-families-number.result c.args.family.now c.each-test.true c.index-families-number.is (sym c.eq.ensures ∙ c.if-eq.true)

pub each-preserved : goal.each-preserved
each-preserved c =
    not_here _ c.each.number c.index-families-number.result c.args.family.now c.each-test.true c.index-families-number.is (sym c.eq.ensures ∙ c.if-eq.false)
    c.each.invariant

pub returns : goal.returns
returns c has = c.each.invariant (subst (λ l. Contains l c.args.family.now) (sym (take_all c.each.number c.args.families.now c.each-test.false)) has)
