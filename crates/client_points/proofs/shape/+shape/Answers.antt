use Rattle.std.proofs.Common.{arith, length, ◌≤◌}
use Rattle.client_points.proofs.Shapes.{node_passed, nodes_in_end, points_in_end, points_passed}
use Rattle.client_points.proofs.shape.+shape.Goals as goal

pub nodes_of-each-preserved : goal.nodes_of-each-preserved
nodes_of-each-preserved t c = record {
  nodes =
      node_passed c.args.items.now c.each.item-index c.item-item.result c.each.nodes c.push.new.self c.in_ok-node_of.field-0 c.each.point c.node_of.new.point _
      c.each-test.true c.item-item.is c.in_ok-node_of.ensures.node c.in_ok-node_of.ensures.behind c.in_ok-push.ensures.ok c.each.invariant.nodes;
  behind =
      points_passed c.args.items.now c.each.item-index c.item-item.result c.each.point c.node_of.new.point _
      c.each-test.true c.item-item.is c.in_ok-node_of.ensures.behind c.each.invariant.behind;
}

pub nodes_of-returns-clause-nodes : goal.nodes_of-returns-clause-nodes
nodes_of-returns-clause-nodes t c =
    let few : length c.args.items.now ≤ c.each.item-index = omega (arith, c.each-test.false) in
    nodes_in_end c.args.items.now c.each.item-index c.each.nodes c.each.point _ few c.each.invariant.nodes

pub nodes_of-returns-clause-behind : goal.nodes_of-returns-clause-behind
nodes_of-returns-clause-behind t c =
    let few : length c.args.items.now ≤ c.each.item-index = omega (arith, c.each-test.false) in
    points_in_end c.args.items.now c.each.item-index c.each.point _ few c.each.invariant.behind
