use Rattle.std.proofs.Common.{ap, arith, length}
use Rattle.client_facts.specs.Held.{setting}
use Rattle.tabulation.proofs.Begun.{exact, is_least}
use Rattle.tabulation.proofs.Noted.{none_noted}
use Rattle.tabulation.specs.Indexed.{IsCallerOf, IsExitOf}
use Rattle.tabulation.proofs.solving.solve.Goals as goal

pub returns-clause-edges : goal.returns-clause-edges
returns-clause-edges g c =
    exact (setting c.args.boolean.now) c.each.solution c.each.at c.each.invariant.so_far (omega (arith, ap length c.edges.ensures.value))

pub returns-clause-least : goal.returns-clause-least
returns-clause-least g c =
    is_least (setting c.args.boolean.now) c.each.solution c.each.at c.each.invariant.so_far (omega (arith, ap length c.edges.ensures.value))

pub each-init : goal.each-init
each-init g c = record {
  so_far = c.in_ok-solution.ensures;
  left = none_noted (IsExitOf (setting c.args.boolean.now)) c.in_ok-solution.solution c.new-exits.result c.new-exits.ensures;
  called = none_noted (IsCallerOf (setting c.args.boolean.now)) c.in_ok-solution.solution c.new-callers.result c.new-callers.ensures;
  steps = omega arith;
}
