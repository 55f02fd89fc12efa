use Rattle.std.proofs.Common.{◌≡◌, drop, fold}
use Rattle.easl_model.specs.{along, target_of}
use Rattle.easl_bodies.proofs.paths.target_of.Given as goal

abbrev pub invariant-each : goal.invariant-each
invariant-each l = fold (along l.spec) l.target (drop l.word-index l.path.fields) ≡ target_of l.spec l.context l.path
