-- Terms put in order, each once.
use Rattle.std.specs.Prelude.{List, [], ◌∷◌, ◌++◌}
use Rattle.std.specs.declared.cmp.Ordering.{Ordering}
use Rattle.std.specs.declared.cmp.Ordering.TheVariants.{Less, Equal, Greater}
use Rattle.access_paths.specs.{compare_terms}
use Rattle.access_paths.specs.declared.term.Term.{Term}
use Rattle.case_model.specs.{AreTermsOf}

-- a list of the terms that are asked becomes one of these too
abbrev pub Gathers : List Term → List Term → List Term → Type 0
Gathers more old new = (asked : List Term) → AreTermsOf asked old → AreTermsOf (asked ++ more) new

-- before an item to which it compares so, the rest after that being this
abbrev pub put_by : Ordering → Term → Term → List Term → List Term → List Term
put_by Less t u us rest = t ∷ u ∷ us
put_by Equal t u us rest = u ∷ us
put_by Greater t u us rest = u ∷ rest

-- the list with a term where it belongs
abbrev pub inserted : Term → List Term → List Term
inserted t [] = t ∷ []
inserted t (u ∷ us) = put_by (compare_terms t u) t u us (inserted t us)
