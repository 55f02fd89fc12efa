-- The numbers of the configurations that pass a test, one configuration after another.
use Rattle.std.proofs.Common.{◌≡◌, ℕ, zero, suc, ◌+◌, ◌<◌, Bool, true, false, cond, List, [], ◌∷◌, ◌++◌, length, get_or, take, filter, map, All, refl, ap, ap₂, sym, ◌∙◌, arith}
use Rattle.std.proofs.lemmas.List.Elements.{filter_more}
use Rattle.std.proofs.lemmas.List.{map-append, map_more}
use Rattle.cube_cover.specs.{configurations_at}

pub any_default : {X : Type 0} (xs : List X) (k : ℕ) (d e : X) → k < length xs → get_or xs k d ≡ get_or xs k e
any_default [] k d e h = absurd (omega arith)
any_default (x ∷ xs) zero d e h = refl
any_default (x ∷ xs) (suc k) d e h = any_default xs k d e (omega arith)

pub named_more : (p : List ℕ → Bool) (all : List (List ℕ)) (numbers : List ℕ) (n : ℕ) (bs : List ℕ) (so : Bool) → n < length all → get_or all n bs ≡ bs → so ≡ p bs
    → configurations_at all numbers ≡ filter p (take n all) → configurations_at all (numbers ++ cond so (n ∷ []) []) ≡ filter p (take (n + 1) all)
named_more p all numbers n bs so within at is before =
    map-append (λ k. get_or all k []) numbers (cond so (n ∷ []) [])
    ∙ ap₂ (λ xs ys. xs ++ ys) before (by so ∙ ap₂ (λ b x. cond b (x ∷ []) []) (is ∙ ap p (sym at)) (any_default all n [] bs within))
    ∙ sym (filter_more p all n bs within)
  where
    by : (b : Bool) → configurations_at all (cond b (n ∷ []) []) ≡ cond b (get_or all n [] ∷ []) []
    by true = refl
    by false = refl

pub within_more : (most : ℕ) (numbers : List ℕ) (n : ℕ) (so : Bool) → n < most → All (λ k. k < most) numbers → All (λ k. k < most) (numbers ++ cond so (n ∷ []) [])
within_more most [] n true below all zero d h = below
within_more most [] n true below all (suc k) d h = absurd (omega arith)
within_more most [] n false below all k d h = absurd (omega arith)
within_more most (m ∷ numbers) n so below all zero d h = all 0 d (omega arith)
within_more most (m ∷ numbers) n so below all (suc k) d h = within_more most numbers n so below (λ i e l. all (suc i) e (omega arith)) k d (omega arith)

-- what is made of each number is made of the configuration that it names
pub named_each : (f : List ℕ → Bool) (all : List (List ℕ)) (numbers : List ℕ) → map (λ k. f (get_or all k [])) numbers ≡ map f (configurations_at all numbers)
named_each f all [] = refl
named_each f all (k ∷ numbers) = ap (λ bs. f (get_or all k []) ∷ bs) (named_each f all numbers)

-- one number more
pub truth_more : (f : List ℕ → Bool) (all : List (List ℕ)) (numbers : List ℕ) (i k : ℕ) (truths : List Bool) (b : Bool) → i < length numbers
    → get_or numbers i 0 ≡ k → truths ≡ map f (configurations_at all (take i numbers)) → b ≡ f (get_or all k [])
    → truths ++ b ∷ [] ≡ map f (configurations_at all (take (i + 1) numbers))
truth_more f all numbers i k truths b within at before is =
    ap₂ (λ xs y. xs ++ y ∷ []) (before ∙ sym (named_each f all (take i numbers))) (is ∙ ap (λ z. f (get_or all z [])) (sym at))
    ∙ sym (map_more (λ z. f (get_or all z [])) numbers i 0 within)
    ∙ named_each f all (take (i + 1) numbers)
