use Rattle.std.proofs.Common.{◌≡◌, take, map}
use Rattle.easl_model.specs.{argument_of}
use Rattle.easl_types.proofs.form.arguments_of.Given as goal

abbrev pub invariant-each : goal.invariant-each
invariant-each l = l.reaches ≡ map (argument_of l.spec l.context) (take l.argument-index l.arguments)
