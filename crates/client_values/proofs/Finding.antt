-- Items that are looked for in two lists.
use Rattle.std.proofs.Common.{◌≡◌, Bool, List, ◌++◌}
use Rattle.std.proofs.lemmas.List.Folds.{find-append}
use Rattle.std.specs.Prelude.{find}
use Rattle.std.specs.Option.{option_or}

pub find_both : {X : Type 0} (p : X → Bool) (xs ys : List X) → find p (xs ++ ys) ≡ option_or (find p xs) (find p ys)
find_both = find-append
