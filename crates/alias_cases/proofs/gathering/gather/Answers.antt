use Rattle.std.proofs.Common.{arith, ap, length, subst, [], ◌∷◌}
use Rattle.alias_cases.specs.{Gathers}
use Rattle.alias_cases.proofs.Gathered.{more_so, prefix_all, prefix_more, start_so}
use Rattle.alias_cases.proofs.gathering.gather.Goals as goal

pub each-init : goal.each-init
each-init c = record {
  prefix = c.variable-prefix.ensures;
  gathers = start_so c.args.term.now.var.0 c.variable-prefix.result c.in_ok-twin.field-0 c.args.list.now.items c.insert.new.list.items c.variable-prefix.ensures c.in_ok-twin.ensures c.in_ok-insert.ensures;
}

pub each-preserved : goal.each-preserved
each-preserved c =
    let longer = rw c.as_slice-field-items.ensures at c.in_ok-prefix.ensures in
    record {
      prefix = prefix_more c.args.term.now c.each.prefix c.in_ok-prefix.prefix c.each.field-index (omega (arith, c.each-test.true, ap length c.as_slice-field-items.ensures)) c.each.invariant.prefix longer;
      gathers = more_so c.each.prefix c.in_ok-prefix.prefix c.in_ok-twin-2.field-0 _ c.args.list.now.items c.each.list.items c.insert-in-each.new.list.items longer c.in_ok-twin-2.ensures c.in_ok-insert-2.ensures c.each.invariant.gathers;
    }

pub returns : goal.returns
returns c =
    subst (λ t. Gathers (t ∷ []) c.args.list.now.items c.each.list.items)
    (prefix_all c.args.term.now c.each.prefix c.each.field-index (omega (arith, c.each-test.false, ap length c.as_slice-field-items.ensures)) c.each.invariant.prefix)
    c.each.invariant.gathers
