-- Items that a limit counts, and the first that is beyond one.
use Rattle.std.specs.Prelude.{ℕ, zero, suc, List, Option}
use Rattle.std.specs.List.{fold}
use Rattle.easl_model.specs.{earlier, first_with}
use Rattle.easl_model.specs.TreeLimits.{comes_before}
use Rattle.easl_model.specs.declared.fault.Excess.{Excess}
use Rattle.easl_model.specs.declared.fault.Which.{Which}
use Rattle.easl_model.specs.declared.place.Place.{Place}
use Rattle.easl_parser.specs.declared.tally.Tally.{Tally}

-- the first of what was found and these, in text order
abbrev pub first_from : Option Excess → List Excess → Option Excess
first_from found xs = first_with comes_before found xs

-- one more item, where so many may still come
abbrev pub count_one : Which → ℕ → Option Excess → Place → Tally
count_one which zero found place = record { left = 0; found = earlier comes_before found (record { which = which; place = place }) }
count_one which (suc left) found place = record { left = left; found = found }

abbrev pub counted : Which → Tally → Place → Tally
counted which t place = count_one which t.left t.found place

-- the items that begin at these places
abbrev pub tally_of : Which → Tally → List Place → Tally
tally_of which start places = fold (counted which) start places
