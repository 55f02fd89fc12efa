use Rattle.std.proofs.Common.{arith}
use Rattle.client_facts.specs.Held.{setting}
use Rattle.client_facts.specs.Names.{IsNameAt}
use Rattle.step_flows.proofs.Choosing.{standing-all, standing-more}
use Rattle.step_flows.proofs.next.Next.add_names.Goals as goal

pub each-preserved : goal.each-preserved
each-preserved c = record {
  kept = λ a h. c.in_ok-add_name.ensures.kept a (c.each.invariant.kept a h);
  added = standing-more (λ code. IsNameAt (setting c.args.self.now.setting.now) c.args.self.now.procedure c.args.self.now.point c.args.class code)
      c.each.list.items _ c.args.codes.now c.each.code-index
      c.each-test.true c.in_ok-add_name.ensures.kept c.each.invariant.added c.in_ok-add_name.ensures.added;
}

pub returns-clause-added : goal.returns-clause-added
returns-clause-added c =
    standing-all (λ code. IsNameAt (setting c.args.self.now.setting.now) c.args.self.now.procedure c.args.self.now.point c.args.class code)
    c.each.list.items c.args.codes.now c.each.code-index (omega arith)
    c.each.invariant.added
