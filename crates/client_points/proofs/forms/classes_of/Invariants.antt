use Rattle.std.proofs.Common.{◌≡◌, take}
use Rattle.client_model.specs.CheckedForm.{classes_of}
use Rattle.client_points.proofs.forms.classes_of.Given as goal

abbrev pub invariant-each : goal.invariant-each
invariant-each l = l.classes ≡ classes_of l.spec (take l.param-index l.params)
