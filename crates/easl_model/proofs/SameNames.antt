-- When two texts are the same, by their bytes and by their characters.
use Rattle.std.proofs.Common.{◌≡◌, ℕ, List, [], ◌∷◌, ap, refl, sym, ◌∙◌}
use Rattle.std.proofs.Math.Utf8.{encodes}
use Rattle.std.proofs.lemmas.Bool.{eq-eqb}
use Rattle.std.proofs.lemmas.Str.{encodes-chars}
use Rattle.std.specs.Cmp.Lexicographic.{pointwise}
use Rattle.std.specs.Prelude.{true, nat_eq, IsUtf8, chars}

-- texts of the same characters are the same
pub same_text : (left right : List ℕ) → IsUtf8 left → IsUtf8 right → chars left ≡ chars right → left ≡ right
same_text left right left_text right_text same =
    sym (encodes-chars left left_text) ∙ ap encodes same ∙ encodes-chars right right_text

pub same_bytes : (bytes : List ℕ) → pointwise nat_eq bytes bytes ≡ true
same_bytes [] = refl
same_bytes (b ∷ bytes) = rw (eq-eqb b b refl) (same_bytes bytes)
