-- The first of what was found and some, and then of that and others.
use Rattle.std.proofs.Common.{◌≡◌, Bool, List, [], ◌∷◌, ◌++◌, refl}
use Rattle.std.specs.Prelude.{Option}
use Rattle.easl_model.specs.{earlier, first_with}

pub both : {A : Type 0} (before : A → A → Bool) (found : Option A) (xs ys : List A)
    → first_with before found (xs ++ ys) ≡ first_with before (first_with before found xs) ys
both before found [] ys = refl
both before found (x ∷ xs) ys = both before (earlier before found x) xs ys
