use Rattle.std.proofs.Common.{◌≡◌, ◌+◌, ℕ, map}
use Rattle.client_model.specs.Nodes.{tree_of, trees}
use Rattle.client_points.proofs.Shapes.{both_trees}
use Rattle.client_model.specs.CheckedForm.{steps_from}
use Rattle.client_points.proofs.forms.steps.Given as goal

abbrev pub invariant-each : goal.invariant-each
invariant-each l = (more : ℕ) → l.point + more ≡ l.count → both_trees (trees (map tree_of l.nodes)) (steps_from l.point more) ≡ steps_from 0 l.count
