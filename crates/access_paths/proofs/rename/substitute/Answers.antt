use Rattle.access_paths.proofs.Substituted.{has_less, has_more, one_more_renamed, whole_renamed}
use Rattle.access_paths.specs.{variable_in}
use Rattle.access_paths.proofs.rename.substitute.Goals as goal

pub renamed-requires-clause-less : goal.renamed-requires-clause-less
renamed-requires-clause-less c = c.requires.entries _ (has_less _ _ _ _ c.as_slice-literal-items.ensures c.each-test.true c.literal-item.is)

pub renamed-requires-clause-more : goal.renamed-requires-clause-more
renamed-requires-clause-more c = c.requires.entries _ (has_more _ _ _ _ c.as_slice-literal-items.ensures c.each-test.true c.literal-item.is)

pub each-preserved : goal.each-preserved
each-preserved c =
    one_more_renamed (variable_in c.args.vars.now) _ _ _ _ _ _ c.each-test.true c.literal-item.is c.in_ok-renamed.ensures c.each.invariant c.in_ok-add.ensures

pub returns : goal.returns
returns c =
    whole_renamed (variable_in c.args.vars.now) _ _ _ _ _ c.requires.apart c.as_slice-literal-items.ensures c.each-test.false
    c.each.auto.literal-index-end c.each.invariant c.from_vec.ensures
