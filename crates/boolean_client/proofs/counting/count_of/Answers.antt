use Rattle.std.proofs.Common.{refl, subst, arith}
use Rattle.client_model.specs.Checked.{IsInRange}
use Rattle.boolean_client.proofs.FewFacts.{facts_few}
use Rattle.boolean_client.proofs.counting.count_of.Goals as goal

pub returns-in-None : goal.returns-in-None
returns-in-None c =
    let range : IsInRange c.args.setting.now.client = subst IsInRange c.client.ensures c.is_kept-2.ensures.in_range in
    absurd (omega (arith, c.in-None.ensures.over refl, facts_few c.args.setting.now c.args.procedure c.requires range c.is_kept.ensures.exact))
