-- The configurations with one term more.
use Rattle.std.specs.Prelude.{ℕ, ◌+◌, ◌==◌, ◌&&◌, Bool, false, List, [], ◌∷◌, ◌++◌, Option, Some, None, flat_map, map, slice_index, if◌then◌else◌}
use Rattle.alias_cases.specs.declared.steps.Step.{Step}

-- the step is along the same field, from a term that is joined with the shorter one
abbrev pub is_alike : List ℕ → Step → Option Step → Bool
is_alike bs own None = false
is_alike bs own (Some s) = s.field == own.field && slice_index bs s.shorter == slice_index bs own.shorter

-- the block to which such a step leads, of these steps with the blocks to which they lead
abbrev pub led_to : List ℕ → Step → List (Option Step) → List ℕ → Option ℕ
led_to bs own [] cs = None
led_to bs own (s ∷ ss) [] = None
led_to bs own (s ∷ ss) (c ∷ cs) = if is_alike bs own s then Some c else led_to bs own ss cs

-- the blocks that begin with a term of the class, and a new one, where the next block that begins has this number
abbrev pub open_blocks : ℕ → ℕ → List ℕ → List ℕ → List ℕ
open_blocks class next classes [] = next ∷ []
open_blocks class next [] (b ∷ bs) = next ∷ []
open_blocks class next (k ∷ ks) (b ∷ bs) =
    if b == next then (if k == class then b ∷ open_blocks class (next + 1) ks bs else open_blocks class (next + 1) ks bs)
    else open_blocks class next ks bs

-- the blocks that a term of this class fits in: that to which its step leads already, or all that are open
abbrev pub fitting_by : Option ℕ → ℕ → List ℕ → List ℕ → List ℕ
fitting_by (Some b) class classes bs = b ∷ []
fitting_by None class classes bs = open_blocks class 0 classes bs

abbrev pub fitting_blocks : List (Option Step) → List ℕ → Option Step → ℕ → List ℕ → List ℕ
fitting_blocks steps classes None class bs = open_blocks class 0 classes bs
fitting_blocks steps classes (Some own) class bs = fitting_by (led_to bs own steps bs) class classes bs

-- a configuration with each of these blocks behind it
abbrev pub extended : List ℕ → List ℕ → List (List ℕ)
extended bs found = map (λ b. bs ++ b ∷ []) found

abbrev pub next_level : List (Option Step) → List ℕ → Option Step → ℕ → List (List ℕ) → List (List ℕ)
next_level steps classes step class level = flat_map (λ bs. extended bs (fitting_blocks steps classes step class bs)) level
