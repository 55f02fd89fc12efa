use Rattle.std.proofs.Common.{◌≡◌, [], drop}
use Rattle.std.specs.Prelude.{filter_map}
use Rattle.std.specs.List.{flat_map}
use Rattle.client_bodies.specs.InTextOrder.{Stands, all_in_end, faults_behind, first_in_end, nothing_yet, sets_in_end}
use Rattle.client_points.specs.Wholes.{sets_by, with_bodies}
use Rattle.client_model.specs.Bodies.{bodies_from}
use Rattle.client_model.specs.Faults.{first_of}
use Rattle.client_model.specs.Rules.{faults_of_body}
use Rattle.client_model.specs.Trees.{client_of}
use Rattle.client_bodies.proofs.bodies.pass_items.Given as goal

abbrev pub invariant-each : goal.invariant-each
invariant-each l = record {
  stands : Stands l.setting l.progress;
  first : first_in_end l.setting l.client l.progress (drop l.is_static-index l.client.order)
      ≡ first_of (flat_map faults_of_body (bodies_from l.setting 0 1 0 (client_of l.client).items));
  all : all_in_end l.setting l.client l.progress (drop l.is_static-index l.client.order)
      ≡ with_bodies l.setting.form (bodies_from l.setting 0 1 0 (client_of l.client).items) nothing_yet;
  sets : flat_map faults_of_body (bodies_from l.setting 0 1 0 (client_of l.client).items) ≡ []
      → (faults_behind l.setting l.client l.progress (drop l.is_static-index l.client.order) ≡ [])
      × (sets_in_end l.setting l.client l.progress (drop l.is_static-index l.client.order)
      ≡ filter_map (λ b. sets_by b b.item) (bodies_from l.setting 0 1 0 (client_of l.client).items));
}
