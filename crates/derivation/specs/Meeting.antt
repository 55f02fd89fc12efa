-- One family that is met, and why it is not.
use Rattle.std.specs.Prelude.{◌≡◌, ◌⊎◌, ◌≤◌, List, [], ◌∷◌, ◌++◌, Contains, length}
use Rattle.access_paths.specs.declared.term.Family.{Family}
use Rattle.derivation.specs.declared.meet.MeetFault.{MeetFault}
use Rattle.derivation.specs.declared.meet.MeetFault.TheVariants.{Full, Memory}

-- it is known, or it is appended and not too many
abbrev pub IsMet : List Family → Family → List Family → Type 0
IsMet known family after =
    (Contains known family × (after ≡ known)) ⊎ ((¬ Contains known family) × (after ≡ known ++ family ∷ []) × (length after ≤ 64))

-- where there are too many this holds; want of memory is free
abbrev pub IsFull : Type 0 → MeetFault → Type 0
IsFull P Full = P
IsFull P Memory = Unit {0}
