use Rattle.std.proofs.Common.{◌≡◌, ◌+◌, drop, map}
use Rattle.client_model.proofs.PlainStatements.{plain}
use Rattle.client_model.specs.Nodes.{count, shape_from, tree_of, trees}
use Rattle.client_points.proofs.Shapes.{both_trees}
use Rattle.client_points.proofs.shape.+shape.Given as goal

abbrev pub invariant-nodes_of-each : goal.invariant-nodes_of-each
invariant-nodes_of-each l = record {
  nodes : both_trees (trees (map tree_of l.nodes)) (shape_from l.point (plain (drop l.item-index l.items))) ≡ shape_from l.fn.point (plain l.items);
  behind : l.point + count (plain (drop l.item-index l.items)) ≡ l.fn.point + count (plain l.items);
}
