use Rattle.std.proofs.Common.{arith}
use Rattle.easl_model.specs.Form.{Form}
use Rattle.easl_model.specs.{body_of, total_count}
use Rattle.easl_model.specs.declared.form.ClassForm.{ClassForm}
use Rattle.easl_types.specs.Counts.{count_at, cut}
use Rattle.easl_bodies.proofs.Walks.{map_more}
use Rattle.easl_types.proofs.lengths.next_counts.Goals as goal

pub each-preserved : goal.each-preserved
each-preserved c =
    let form : Form = record { classes = c.args.classes.now; methods = c.args.methods.now } in
    map_more (λ (d : ClassForm). cut (total_count (count_at c.args.counts.now) (body_of form d.constructor)))
    c.args.classes.now c.each.class-index c.class-item.result c.each.next c.push.new.self c.count_of_method.result
    (omega arith) c.class-item.is (c.count_of_method.ensures c.args.classes.now) c.in_ok-push.ensures.ok c.each.invariant
