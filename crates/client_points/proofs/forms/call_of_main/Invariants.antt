use Rattle.std.proofs.Common.{◌≡◌, drop, map, suc}
use Rattle.client_model.specs.CheckedForm.{call_of_main}
use Rattle.client_model.specs.Trees.{procedure_of}
use Rattle.client_points.proofs.forms.call_of_main.Given as goal

abbrev pub invariant-each : goal.invariant-each
invariant-each l = call_of_main (suc l.at) (map procedure_of (drop l.at l.procedures)) ≡ call_of_main 1 (map procedure_of l.procedures)
