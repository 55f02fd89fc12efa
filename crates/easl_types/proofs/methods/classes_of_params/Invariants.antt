use Rattle.std.proofs.Common.{◌≡◌, take, map}
use Rattle.easl_model.specs.{class_of}
use Rattle.easl_types.proofs.methods.classes_of_params.Given as goal

abbrev pub invariant-each : goal.invariant-each
invariant-each l = l.classes ≡ map (λ p. class_of l.spec p.sort) (take l.param-index l.params)
