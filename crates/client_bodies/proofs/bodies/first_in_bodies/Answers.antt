use Rattle.std.proofs.Common.{◌≡◌, length, map, subst, sym, ◌∙◌}
use Rattle.std.specs.List.{range_with_len}
use Rattle.client_model.proofs.StartSets.{statics_numbered}
use Rattle.client_model.specs.Bodies.{codes_of}
use Rattle.client_model.specs.Codes.{static_code}
use Rattle.client_bodies.proofs.bodies.first_in_bodies.Goals as goal

pub pass_items-requires : goal.pass_items-requires
pass_items-requires c =
    subst (λ vs. codes_of vs ≡ map static_code (range_with_len 0 (length vs))) (sym c.in_ok-tables.ensures.statics)
    (statics_numbered c.args.spec.now 0 _)
