use Rattle.std.proofs.Common.{◌≡◌, ◌++◌, drop, length, map}
use Rattle.easl_model.specs.{bodies_from, bodies_of, classes_from, method_of}
use Rattle.easl_types.proofs.methods.parts_of.Given as goal

abbrev pub invariant-each : goal.invariant-each
invariant-each l = record {
  classes : l.classes.items ++ classes_from l.spec (length l.methods.items) (drop l.at l.given) ≡ classes_from l.spec 0 l.given;
  methods : l.methods.items ++ map (method_of l.spec) (bodies_from l.at (drop l.at l.given)) ≡ map (method_of l.spec) (bodies_of l.spec);
  places : l.places.items ++ map (λ b. b.code.name.place) (bodies_from l.at (drop l.at l.given)) ≡ map (λ b. b.code.name.place) (bodies_of l.spec);
}
