use Rattle.std.proofs.Common.{◌≡◌, ◌++◌, drop, map}
use Rattle.easl_model.specs.{method_body, methods_in}
use Rattle.easl_types.proofs.methods.add_written_places.Given as goal

abbrev pub invariant-each : goal.invariant-each
invariant-each l =
    l.places.items ++ map (λ b. b.code.name.place) (map (method_body 0) (methods_in (drop l.member-index l.members)))
    ≡ l.fn.places.items ++ map (λ b. b.code.name.place) (map (method_body 0) (methods_in l.members))
