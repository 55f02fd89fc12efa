use Rattle.std.proofs.Common.{◌∙◌, sym, arith}
use Rattle.client_facts.proofs.Counted.{counted_no, counted_yes}
use Rattle.client_facts.proofs.counts.count_statics.Goals.{else-is_of, then-is_of}
use Rattle.client_facts.proofs.counts.count_statics.Goals as goal

pub each-preserved : goal.each-preserved
each-preserved c =
    elim c.if-is_of.branch [
      | then-is_of w ↦ record {
        so =
            counted_yes c.args.class c.client-client.result.now.statics c.each.number c.static_class.result c.each.count c.if-is_of.count c.static_class.ensures
            (sym c.is_of.ensures ∙ w.if-is_of.true) w.count-is c.each.invariant.so;
        few = omega (arith, w.count-is, c.each.invariant.few);
      }
      | else-is_of w ↦ record {
        so =
            counted_no c.args.class c.client-client.result.now.statics c.each.number c.static_class.result c.each.count c.if-is_of.count c.static_class.ensures
            (sym c.is_of.ensures ∙ w.if-is_of.false) w.count-is c.each.invariant.so;
        few = omega (arith, w.count-is, c.each.invariant.few);
      }
    ]
