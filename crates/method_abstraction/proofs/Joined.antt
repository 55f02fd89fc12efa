-- Texts with another between each two, one by one.
use Rattle.std.proofs.Common.{◌≡◌, ℕ, List, [], ◌∷◌, ◌++◌, ◌∙◌, refl, sym, ap, append-nil}
use Rattle.method_abstraction.specs.{joined}

-- texts with one before the first, and one before each other
abbrev pub led : List ℕ → List ℕ → List (List ℕ) → List ℕ
led before between [] = []
led before between (x ∷ xs) = before ++ (x ++ led between between xs)

joined_led : (between : List ℕ) (xs : List (List ℕ)) → joined between xs ≡ led [] between xs
joined_led between [] = refl
joined_led between (x ∷ []) = sym (append-nil x)
joined_led between (x ∷ y ∷ rest) = ap (λ t. x ++ (between ++ t)) (joined_led between (y ∷ rest))

-- once none is left, all are joined
pub all_joined : (before between out start : List ℕ) (rest xs : List (List ℕ))
    → rest ≡ [] → out ++ led before between rest ≡ start ++ led [] between xs
    → out ≡ start ++ joined between xs
all_joined before between out start rest xs none e =
    sym (append-nil out) ∙ sym (ap (λ r. out ++ led before between r) none) ∙ e ∙ ap (λ t. start ++ t) (sym (joined_led between xs))
