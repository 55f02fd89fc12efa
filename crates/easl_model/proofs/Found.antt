-- Names that are looked for from the front of a list.
use Rattle.std.proofs.Common.{◌≡◌, ◌≢◌, ℕ, true, false, List}
use Rattle.std.proofs.lemmas.Bool.{false_from_ne_true}
use Rattle.std.proofs.lemmas.Slice.Eq.{bytes_eq-Decides}
use Rattle.easl_model.specs.{is_same}

pub same_is : (left right : List ℕ) → left ≡ right → is_same left right ≡ true
same_is left right = (bytes_eq-Decides left right).1

pub other_is : (left right : List ℕ) → left ≢ right → is_same left right ≡ false
other_is left right other = false_from_ne_true (is_same left right) (λ same. other ((bytes_eq-Decides left right).0 same))
