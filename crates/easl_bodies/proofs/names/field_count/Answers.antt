use Rattle.std.proofs.Common.{rules, ◌≡◌, ◌∙◌}
use Rattle.std.specs.Prelude.{count_by}
use Rattle.easl_bodies.proofs.Walks.{field_count}
use Rattle.easl_bodies.specs.Shape.{is_field}
use Rattle.easl_bodies.proofs.names.field_count.Goals as goal

pub returns : goal.returns
returns c =
    let counted : c.count.result ≡ count_by is_field c.args.members.now = search rules in
    counted ∙ field_count c.args.members.now
