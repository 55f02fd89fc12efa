use Rattle.std.proofs.Common.{◌≡◌, ◌∙◌, sym}
use Rattle.std.proofs.lemmas.List.Elements.{AllWithin-more, at_read}
use Rattle.std.specs.declared.cmp.Ordering.TheVariants.{Less}
use Rattle.access_paths.proofs.Ascending.{equal_is, greater_turned}
use Rattle.access_paths.proofs.Exact.{literals_exact}
use Rattle.access_paths.proofs.Members.{found_member}
use Rattle.access_paths.specs.{compare_literals}
use Rattle.access_paths.proofs.rename.place_of.Goals as goal

pub returns-then-is_eq-clause-there : goal.returns-then-is_eq-clause-there
returns-then-is_eq-clause-there c =
    found_member c.args.literals.now c.each.before c.args.literal.now c.index-literals-before.result c.each-test.true c.index-literals-before.is
    (literals_exact _ _ (sym c.compare-order.ensures ∙ equal_is c.compare-order.result (sym c.is_eq.ensures ∙ c.if-is_eq.true)))

pub each-preserved : goal.each-preserved
each-preserved c =
    let less : compare_literals c.index-literals-before.result c.args.literal.now ≡ Less =
    greater_turned c.args.literal.now c.index-literals-before.result c.compare-order.result c.compare-order.ensures (sym c.is_lt.ensures ∙ c.if-is_lt.false) (sym c.is_eq.ensures ∙ c.if-is_eq.false) in
    AllWithin-more (λ m. compare_literals m c.args.literal.now ≡ Less) _ 0 _ c.each.invariant
    (at_read _ (λ m. compare_literals m c.args.literal.now ≡ Less) _ _ c.each-test.true c.index-literals-before.is less)
