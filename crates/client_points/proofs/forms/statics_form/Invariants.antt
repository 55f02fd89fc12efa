use Rattle.std.proofs.Common.{◌≡◌, map, take}
use Rattle.client_model.specs.Settings.{class_in}
use Rattle.client_points.proofs.forms.statics_form.Given as goal

abbrev pub invariant-each : goal.invariant-each
invariant-each l = l.classes ≡ map (λ v. class_in v.kind) (take l.variable-index l.statics)
