use Rattle.std.proofs.Common.{rules}
use Rattle.easl_types.proofs.ActForms.{changed_act, written_act}
use Rattle.easl_types.proofs.form.assigned_by.Goals as goal

pub returns-in-Some : goal.returns-in-Some
returns-in-Some c =
    written_act c.args.spec.now c.args.context.now c.args.path.now c.args.source c.in_ok-slot.field-0.slot c.pop.new.self c.in_ok-slot.field-0.fields c.in-Some.field (search rules) (search rules)

pub returns-in-None : goal.returns-in-None
returns-in-None c =
    changed_act c.args.spec.now c.args.context.now c.args.path.now c.args.source c.in_ok-slot.field-0.slot c.in_ok-slot.field-0.fields (search rules) (search rules)
