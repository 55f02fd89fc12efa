-- Faults of clients, and the first of some.
use Rattle.std.specs.Prelude.{ℕ, Bool, ◌&&◌, ◌||◌, ◌==◌, List, [], ◌∷◌, Option, None, if◌then◌else◌, nat_lt}
use Rattle.easl_model.specs.Faults.{first_with, stands_before}
use Rattle.easl_model.specs.declared.place.Place.{Place}

-- the rules, in the order of their numbers
pub data Rule : Type 0 where
  -- something is named a second time
  Duplicate : Rule
  -- a name stands for nothing
  Unknown : Rule
  -- a type is not the one that is wanted
  Mismatch : Rule
  -- a variable is read where it is not surely assigned
  Unset : Rule
  -- a result is not returned
  NoReturn : Rule
  -- there is no `main`
  NoMain : Rule
  -- a statement stands behind one that does not go on
  Unreachable : Rule
  -- a `break` or `continue` stands in no `while`
  OutsideLoop : Rule

abbrev pub number_of : Rule → ℕ
number_of Duplicate = 1
number_of Unknown = 2
number_of Mismatch = 3
number_of Unset = 4
number_of NoReturn = 5
number_of NoMain = 6
number_of Unreachable = 7
number_of OutsideLoop = 8

-- a rule is broken at a place
pub record Fault : Type 0 where
  pub rule : Rule
  pub place : Place

abbrev pub fault : Rule → Place → Fault
fault rule place = record { rule = rule; place = place }

-- the rule is broken at the place, where this is so
abbrev pub broken_if : Bool → Rule → Place → List Fault
broken_if so rule place = if so then fault rule place ∷ [] else []

abbrev pub is_one_place : Place → Place → Bool
is_one_place p q = (p.line == q.line) && (p.col == q.col)

-- in text order, and at one place by number
abbrev pub comes_before : Fault → Fault → Bool
comes_before f g = stands_before f.place g.place || (is_one_place f.place g.place && nat_lt (number_of f.rule) (number_of g.rule))

-- the first of these faults
abbrev pub first_of : List Fault → Option Fault
first_of faults = first_with comes_before None faults
