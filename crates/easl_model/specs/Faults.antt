-- Faults, and the first of some.
use Rattle.std.specs.Prelude.{ℕ, Bool, ◌&&◌, ◌||◌, ◌==◌, List, [], ◌∷◌, Option, Some, None, if◌then◌else◌, nat_lt}
use Rattle.std.specs.List.{fold}
use Rattle.easl_model.specs.declared.place.Place.{Place}
use Rattle.easl_model.specs.declared.fault.Fault.{Fault}
use Rattle.easl_model.specs.declared.fault.Rule.{Rule}
use Rattle.easl_model.specs.declared.fault.Rule.TheVariants.{Duplicate, Unknown, Mismatch, Unready, ConstructorCycle, TooLong}

abbrev pub number_of : Rule → ℕ
number_of Duplicate = 1
number_of Unknown = 2
number_of Mismatch = 3
number_of Unready = 4
number_of ConstructorCycle = 5
number_of TooLong = 6

abbrev pub fault : Rule → Place → Fault
fault rule place = record { rule = rule; place = place }

-- the rule is broken at the place, where this is so
abbrev pub broken_if : Bool → Rule → Place → List Fault
broken_if so rule place = if so then fault rule place ∷ [] else []

-- whether one place stands before another in the text
abbrev pub stands_before : Place → Place → Bool
stands_before p q = nat_lt p.line q.line || ((p.line == q.line) && nat_lt p.col q.col)

-- in text order, and at one place by number
abbrev pub comes_before : Fault → Fault → Bool
comes_before f g =
    stands_before f.place g.place
    || (((f.place.line == g.place.line) && (f.place.col == g.place.col)) && nat_lt (number_of f.rule) (number_of g.rule))

-- the first of what was found and one more, in an order
abbrev pub earlier : {A : Type 0} → (A → A → Bool) → Option A → A → Option A
earlier before None x = Some x
earlier before (Some y) x = if before x y then Some x else Some y

-- the first of what was found and these
abbrev pub first_with : {A : Type 0} → (A → A → Bool) → Option A → List A → Option A
first_with before found xs = fold (earlier before) found xs

-- the first of these faults
abbrev pub first_of : List Fault → Option Fault
first_of faults = first_with comes_before None faults
