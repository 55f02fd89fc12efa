use Rattle.std.proofs.Common.{◌+◌, take, sym, subst}
use Rattle.std.specs.List.{AllZip}
use Rattle.alias_cases.proofs.Turns.{zip_more}
use Rattle.access_paths.specs.{HasKnownVariables}
use Rattle.derivation.specs.Replies.{IsPredicateOf}
use Rattle.derivation.proofs.chosen.predicates.Goals as goal

pub predicate-requires-clause-known : goal.predicate-requires-clause-known
predicate-requires-clause-known c = subst HasKnownVariables (sym c.cube-item.is) (c.requires.known c.each.cube-index c.cube-item.result c.each-test.true)

pub each-preserved : goal.each-preserved
each-preserved c =
    let cubes = c.args.cubes.now in
    let at = c.each.cube-index in
    subst (AllZip (IsPredicateOf c.args.classes.now) (take (at + 1) cubes)) (sym c.in_ok-put_last.ensures)
    (zip_more (IsPredicateOf c.args.classes.now) cubes c.each.made.items at c.cube-item.result c.in_ok-predicate.predicate c.each-test.true
    (sym c.cube-item.is) c.each.invariant c.in_ok-predicate.ensures)
