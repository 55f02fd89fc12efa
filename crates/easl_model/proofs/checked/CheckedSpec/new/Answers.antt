use Rattle.easl_model.proofs.CheckedForms.{put_together}
use Rattle.easl_model.proofs.checked.CheckedSpec.new.Goals as goal

pub invariant_of-result : goal.invariant_of-result
invariant_of-result c = put_together c.args.classes.items c.from_vec.result c.args.methods.items c.from_vec-2.result c.from_vec.ensures c.from_vec-2.ensures c.requires
