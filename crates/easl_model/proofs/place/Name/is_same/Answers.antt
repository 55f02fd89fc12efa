use Rattle.std.proofs.Common.{◌≡◌, ap, sym, ◌∙◌}
use Rattle.std.specs.Prelude.{chars}
use Rattle.easl_model.proofs.SameNames.{same_bytes, same_text}
use Rattle.easl_model.proofs.place.Name.is_same.Goals as goal

pub returns-clause-other : goal.returns-clause-other
returns-clause-other c not_same same =
    let left = c.as_str.result.now in
    let right = c.as_str-2.result.now in
    let spell : chars left ≡ chars right =
    ap chars c.as_str.ensures.value ∙ c.self.view_is ∙ same ∙ sym c.other.view_is ∙ ap chars (sym c.as_str-2.ensures.value) in
    let are : left ≡ right = same_text left right c.as_str.utf8 c.as_str-2.utf8 spell in
    let tells = same_bytes left in
    let told = rw (← are) at c.eq.ensures in
    absurd (cc (tells, told))
