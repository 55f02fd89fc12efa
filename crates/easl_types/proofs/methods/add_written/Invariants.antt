use Rattle.std.proofs.Common.{◌≡◌, ◌++◌, drop, map}
use Rattle.easl_model.specs.{method_body, method_of, methods_in}
use Rattle.easl_types.proofs.methods.add_written.Given as goal

abbrev pub invariant-each : goal.invariant-each
invariant-each l =
    l.methods.items ++ map (method_of l.spec) (map (method_body l.class) (methods_in (drop l.member-index l.members)))
    ≡ l.fn.methods.items ++ map (method_of l.spec) (map (method_body l.class) (methods_in l.members))
