-- Names as bytes, and what is printed of numbers that name nothing.
use Rattle.std.proofs.Common.{◌≡◌, ℕ, ◌≤◌, List, [], length, IsUtf8, chars, encode_utf8_all, slice_index, unwrap_or, refl, sym, ap}
use Rattle.std.specs.Option.{option_map}
use Rattle.std.proofs.lemmas.Option.{slice_get_past}
use Rattle.std.proofs.lemmas.Str.{encodes-chars}
use Rattle.easl_model.specs.{fields_of}
use Rattle.easl_model.specs.Form.{Form}

-- the bytes of a name are the encoding of its characters
pub spelled : (bytes : List ℕ) → IsUtf8 bytes → bytes ≡ encode_utf8_all (chars bytes)
spelled bytes text = sym (encodes-chars bytes text)

-- a class that is not there has no fields
pub no_fields : (form : Form) (class : ℕ) → length form.classes ≤ class → fields_of form class ≡ []
no_fields form class past = ap (λ found. unwrap_or (option_map (λ c. c.field_classes) found) []) (slice_get_past form.classes class past)

pub no_field_class : (form : Form) (class field : ℕ) → length form.classes ≤ class → slice_index (fields_of form class) field ≡ 0
no_field_class form class field past = rw (no_fields form class past) refl
