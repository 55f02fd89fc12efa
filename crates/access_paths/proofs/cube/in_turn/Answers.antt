use Rattle.std.proofs.Common.{◌≡◌, ◌∙◌, ap, sym, Some, arith, slice_get}
use Rattle.std.proofs.lemmas.Option.{slice_get_within}
use Rattle.std.specs.Option.{option_copied}
use Rattle.access_paths.specs.{compare_literals}
use Rattle.access_paths.proofs.InTurn.{slice_cmp_decided, slice_cmp_ended, slice_cmp_longer, slice_cmp_passed}
use Rattle.access_paths.proofs.cube.in_turn.Goals as goal

pub returns-in_default : goal.returns-in_default
returns-in_default c =
    sym (slice_cmp_longer compare_literals _ _ _ c.each-test.true (sym c.at.ensures ∙ ap option_copied c.in_default.is)) ∙ c.each.invariant.equal

pub returns-then-is_ne : goal.returns-then-is_ne
returns-then-is_ne c =
    let some : slice_get c.args.right.now c.each.before ≡ Some c.in-Some.other.now = sym c.at.ensures ∙ ap option_copied c.in-Some.is in
    slice_cmp_decided compare_literals _ _ _ _ _ _ c.each-test.true c.index-left-before.is some c.compare-order.ensures (sym c.is_ne.ensures ∙ c.if-is_ne.true)
    ∙ c.each.invariant.equal

pub each-preserved : goal.each-preserved
each-preserved c =
    let some : slice_get c.args.right.now c.each.before ≡ Some c.in-Some.other.now = sym c.at.ensures ∙ ap option_copied c.in-Some.is in
    record {
      within = omega (arith, slice_get_within c.args.right.now c.each.before c.in-Some.other.now some);
      equal = slice_cmp_passed compare_literals _ _ _ _ _ _ c.each-test.true c.index-left-before.is some c.compare-order.ensures (sym c.is_ne.ensures ∙ c.if-is_ne.false)
          ∙ c.each.invariant.equal;
    }

pub returns : goal.returns
returns c =
    c.cmp.ensures ∙ sym (slice_cmp_ended compare_literals _ _ _ c.each-test.false c.each.auto.before-end c.each.invariant.within) ∙ c.each.invariant.equal
