-- What the first position of a name says of other ways to look for it.
use Rattle.std.proofs.Common.{◌≡◌, ℕ, ◌+◌, Bool, true, false, ◌||◌, List, [], ◌∷◌, refl}
use Rattle.std.specs.List.{list_any, position_from}
use Rattle.std.specs.Prelude.{Some, cond, is_some}
use Rattle.easl_model.specs.Names.{is_same}
use Rattle.name_table.specs.Firsts.{position_of}

any_from : {A : Type 0} (p : A → Bool) (k : ℕ) (xs : List A) → is_some (position_from p k xs) ≡ list_any p xs
any_from p k [] = refl
any_from p k (x ∷ xs) = by (p x) (any_from p (k + 1) xs)
  where
    by : (b : Bool) → is_some (position_from p (k + 1) xs) ≡ list_any p xs → is_some (cond b (Some k) (position_from p (k + 1) xs)) ≡ (b || list_any p xs)
    by true later = refl
    by false later = later

-- whether one of the names is this one
pub is_among : (name : List ℕ) (names : List (List ℕ)) → is_some (position_of name names) ≡ list_any (λ n. is_same n name) names
is_among name names = any_from (λ n. is_same n name) 0 names
