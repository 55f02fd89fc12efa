-- The characters of bytes that are a text, and where such bytes end.
use Rattle.std.proofs.Common.{◌≡◌, ℕ, ◌≤◌, List, length, take, chars, IsUtf8, ap, arith}
use Rattle.std.specs.Str.{IsValidUpTo}
use Rattle.std.proofs.lemmas.Str.{encodes-chars, length-le-encodes}
use Rattle.easl_model.specs.declared.place.Place.{Place}
use Rattle.easl_model.specs.{IsNotUtf8At, place_after}

pub chars_short : (text : List ℕ) → IsUtf8 text → length (chars text) ≤ length text
chars_short text u = omega (arith, length-le-encodes (chars text), ap length (encodes-chars text u))

pub not_utf8 : (text : List ℕ) (n : ℕ) (p : Place) → IsValidUpTo text n → p ≡ place_after (chars (take n text)) → IsNotUtf8At text p
not_utf8 text n p v e = record {
  size = n;
  short = v.short;
  utf8 = v.front;
  longest = λ m h within u. v.longest m h u;
  place = e;
}
