use Rattle.easl_bodies.proofs.Walks.{short_way}
use Rattle.easl_bodies.proofs.paths.from_this_to_owner.Goals as goal

pub returns-then-fields-lt2 : goal.returns-then-fields-lt2
returns-then-fields-lt2 c = short_way c.args.context.now c.args.path.now c.as_slice-fields.result.now c.in-None.is c.as_slice-fields.ensures c.if-fields-lt2.true
