use Rattle.std.proofs.Common.{ap, arith, length, false, map, rules, subst, sym, ◌≤◌, ◌∙◌}
use Rattle.std.specs.Prelude.{get_or}
use Rattle.std.proofs.lemmas.List.{append-nil}
use Rattle.std.proofs.lemmas.Grind.{common_steps}
use Rattle.client_bodies.proofs.AllSets.{item_sets, sets_begun}
use Rattle.client_bodies.proofs.AllWritten.{all_begun}
use Rattle.client_bodies.proofs.InOrder.{begun}
use Rattle.client_bodies.proofs.Walked.{all_dropped}
use Rattle.client_bodies.specs.InTextOrder.{SetsStay, all_in_end, sets_in_end, so_far}
use Rattle.client_points.proofs.WholeForm.{no_bodies}
use Rattle.client_model.specs.Bodies.{before_initialiser}
use Rattle.client_values.specs.Knowing.{Knows}
use Rattle.client_bodies.proofs.bodies.pass_items.Goals as goal

pub each-init : goal.each-init
each-init c =
    let s = c.args.setting.now in
    let start = c.before_first.result in
    let knows = c.before_first.ensures s in
    record {
      stands = record {
        start = subst (λ n. Knows (before_initialiser s n start.calls) start) knows.points (subst (λ k. Knows (before_initialiser s 0 k) start) knows.calls knows);
        numbered = c.requires;
      };
      first = begun s c.args.client.now.order c.args.client.now.statics c.args.client.now.procedures start.points start.calls knows.points knows.calls;
      sets = λ none. sets_begun s c.args.client.now.order c.args.client.now.statics c.args.client.now.procedures _ start.points start.calls (search rules) knows.points knows.calls none;
      all = all_begun s c.args.client.now.order c.args.client.now.statics c.args.client.now.procedures _ start.points start.calls (search rules) knows.points knows.calls;
    }

pub each-preserved : goal.each-preserved
each-preserved c = record {
  stands = c.in_ok-pass_item.ensures.stands;
  first = grind (arith, common_steps);
  all = grind (arith, common_steps);
  sets = λ none.
      let s = c.args.setting.now in
      let client = c.args.client.now in
      let stay = subst (λ order. SetsStay s client c.each.progress c.pass_item.new.progress (get_or order c.each.is_static-index false))
      c.as_slice-is_static-items.ensures c.in_ok-pass_item.ensures.sets in
      item_sets s client c.each.progress c.pass_item.new.progress client.order c.each.is_static-index false _
      (omega (arith, c.each-test.true, ap length c.as_slice-is_static-items.ensures)) stay (c.each.invariant.sets none);
}

pub returns-clause-all : goal.returns-clause-all
returns-clause-all c =
    let few : length c.args.client.now.order ≤ c.each.is_static-index = omega (arith, c.each-test.false, ap length c.as_slice-is_static-items.ensures) in
    sym (no_bodies c.args.setting.now.form (so_far c.each.progress))
    ∙ sym (ap (all_in_end c.args.setting.now c.args.client.now c.each.progress) (all_dropped c.args.client.now.order c.each.is_static-index few))
    ∙ c.each.invariant.all

pub returns-clause-sets : goal.returns-clause-sets
returns-clause-sets c none =
    let few : length c.args.client.now.order ≤ c.each.is_static-index = omega (arith, c.each-test.false, ap length c.as_slice-is_static-items.ensures) in
    sym (append-nil (map (λ f. f.set) c.each.progress.forms))
    ∙ sym (ap (sets_in_end c.args.setting.now c.args.client.now c.each.progress) (all_dropped c.args.client.now.order c.each.is_static-index few))
    ∙ (c.each.invariant.sets none).1
