-- Sets of names, worked by hand.
use Rattle.std.proofs.Common.{◌≡◌, true, false, [], ◌∷◌, refl}
use Rattle.set_names.specs.Sets.{codes_of, sets_of, within}
use Rattle.set_names.specs.declared.spans.Span.{Span}

-- in the start of two statics: before the first initialiser, before the second, before the call of `main`, and at the exit
start_of_two : sets_of true 2 3 [] ≡ [] ∷ (0 ∷ []) ∷ (0 ∷ 4 ∷ []) ∷ (0 ∷ 4 ∷ []) ∷ []
start_of_two = refl

-- in a procedure of one point without variables both are set throughout
both_throughout : sets_of false 2 1 [] ≡ (0 ∷ 4 ∷ []) ∷ (0 ∷ 4 ∷ []) ∷ []
both_throughout = refl

-- two statics, and the variables 0 and 2
statics_first : codes_of 2 (0 ∷ 2 ∷ []) ≡ 0 ∷ 4 ∷ 1 ∷ 9 ∷ []
statics_first = refl

abbrev from_2_to_4 : Span
from_2_to_4 = record { first = 2; behind = 5 }

in_it : within 4 from_2_to_4 ≡ true
in_it = refl

behind_it : within 5 from_2_to_4 ≡ false
behind_it = refl
