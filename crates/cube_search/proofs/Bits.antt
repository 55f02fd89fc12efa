-- The bits of rows: a word and a place in it stand for a configuration.
use Rattle.std.proofs.Common.{◌≡◌, ℕ, zero, suc, ◌^◌, ◌≤◌, ◌<◌, min, max, false, ◌==◌, nat_le, List, [], ◌∷◌, length, zip, bit_and, refl, ap, sym, subst, ◌∙◌, inl, inr, ⊎_elim, arith, le-leb, pow-suc, eq-or-lt_of_le}
use Rattle.std.specs.Prelude.{◌⊎◌}
use Rattle.std.specs.Int.{bit_at}
use Rattle.std.specs.List.{list_all}
use Rattle.std.proofs.lemmas.Bool.{and_cases, eqb-false, both_ways}
use Rattle.std.proofs.lemmas.Nat.{and_le_l}
use Rattle.std.proofs.lemmas.Nat.Bits.{bit_at_and, bit_at_or, bit_at-lt, same_from_bits_below, bit_at-zero}
use Rattle.cube_search.specs.Cubes.{IsSet}
use Rattle.cube_search.specs.Rows.{both, either, is_within}
use Rattle.cube_search.proofs.RowLaws.{Within}

below_power : (n : ℕ) → n < 2 ^ n
below_power zero = omega arith
below_power (suc n) = omega (arith, below_power n, pow-suc 2 n)

-- among the first k bits, each that is set in x is set in y, or one is not
bits_cases : (x y k : ℕ) → ((i : ℕ) → i < k → bit_at x i ≡ 1 → bit_at y i ≡ 1) ⊎ ((i : ℕ) × (bit_at x i ≡ 1) × (bit_at y i ≡ 0))
bits_cases x y zero = inl (λ i h s. absurd (omega arith))
bits_cases x y (suc k) = ⊎_elim below here (bits_cases x y k)
  where
    here : ((i : ℕ) × (bit_at x i ≡ 1) × (bit_at y i ≡ 0))
        → ((i : ℕ) → i < suc k → bit_at x i ≡ 1 → bit_at y i ≡ 1) ⊎ ((i : ℕ) × (bit_at x i ≡ 1) × (bit_at y i ≡ 0))
    here w = inr w

    two : (b : ℕ) → b < 2 → (b ≡ 0) ⊎ (b ≡ 1)
    two zero h = inl refl
    two (suc zero) h = inr refl
    two (suc (suc b)) h = absurd (omega (arith, h))

    upto : ((i : ℕ) → i < k → bit_at x i ≡ 1 → bit_at y i ≡ 1) → (bit_at x k ≡ 1 → bit_at y k ≡ 1) → (i : ℕ) → i < suc k → bit_at x i ≡ 1 → bit_at y i ≡ 1
    upto f g i h s =
        ⊎_elim
        (λ (e : i ≡ k). subst (λ j. bit_at y j ≡ 1) (sym e) (g (subst (λ j. bit_at x j ≡ 1) e s)))
        (λ (l : i < k). f i l s)
        (eq-or-lt_of_le (let m : i ≤ k = omega (arith, h) in m))

    below : ((i : ℕ) → i < k → bit_at x i ≡ 1 → bit_at y i ≡ 1)
        → ((i : ℕ) → i < suc k → bit_at x i ≡ 1 → bit_at y i ≡ 1) ⊎ ((i : ℕ) × (bit_at x i ≡ 1) × (bit_at y i ≡ 0))
    below f =
        ⊎_elim
        (λ (a : bit_at y k ≡ 0).
        ⊎_elim
        (λ (b : bit_at x k ≡ 0). inl (upto f (λ s. absurd (omega (arith, s, b)))))
        (λ (b : bit_at x k ≡ 1). inr (k, b, a))
        (two (bit_at x k) (bit_at-lt x k)))
        (λ (a : bit_at y k ≡ 1). inl (upto f (λ s. a)))
        (two (bit_at y k) (bit_at-lt y k))

-- a bit that is set in x and not in y
pub bit_missing : (x y : ℕ) → (bit_and x y ≡ x → ⊥) → (i : ℕ) × (bit_at x i ≡ 1) × (bit_at y i ≡ 0)
bit_missing x y n =
    ⊎_elim
    (λ (f : (i : ℕ) → i < x → bit_at x i ≡ 1 → bit_at y i ≡ 1).
    absurd (n (same_from_bits_below x (bit_and x y) x (omega (arith, below_power x, and_le_l x y)) (below_power x)
    (λ i h. bit_at_and x y i ∙ least (bit_at x i) (bit_at y i) (bit_at-lt x i) (f i h)))))
    (λ (w : (i : ℕ) × (bit_at x i ≡ 1) × (bit_at y i ≡ 0)). w)
    (bits_cases x y x)
  where
    least : (a b : ℕ) → a < 2 → (a ≡ 1 → b ≡ 1) → min a b ≡ a
    least zero b h f = omega arith
    least (suc zero) b h f = omega (arith, f refl)
    least (suc (suc a)) b h f = absurd (omega (arith, h))

-- rows within one another are inclusions
pub within_bits : (xs ys : List ℕ) (word bit : ℕ) → Within xs ys → IsSet xs word bit → IsSet ys word bit
within_bits [] ys word bit w s = absurd (omega (arith, s, bit_at-zero bit))
within_bits (x ∷ xs) [] word bit w s = absurd w
within_bits (x ∷ xs) (y ∷ ys) zero bit w s = omega (arith, bit_at_and x y bit, ap (λ v. bit_at v bit) w.0, s, bit_at-lt y bit)
within_bits (x ∷ xs) (y ∷ ys) (suc word) bit w s = within_bits xs ys word bit w.1 s

pub bits_missing : (xs ys : List ℕ) → length xs ≤ length ys → is_within xs ys ≡ false → (word bit : ℕ) × IsSet xs word bit × (IsSet ys word bit → ⊥)
bits_missing xs ys h n =
    ⊎_elim
    (λ (a : nat_le (length xs) (length ys) ≡ false). absurd (both_ways (nat_le (length xs) (length ys)) a (le-leb (length xs) (length ys) h)))
    (λ (b : list_all (λ p. bit_and p.0 p.1 == p.0) (zip xs ys) ≡ false). at xs ys b)
    (and_cases (nat_le (length xs) (length ys)) (list_all (λ p. bit_and p.0 p.1 == p.0) (zip xs ys)) n)
  where
    at : (xs ys : List ℕ) → list_all (λ p. bit_and p.0 p.1 == p.0) (zip xs ys) ≡ false → (word bit : ℕ) × IsSet xs word bit × (IsSet ys word bit → ⊥)
    at [] ys b = absurd (cc)
    at (x ∷ xs) [] b = absurd (cc)
    at (x ∷ xs) (y ∷ ys) b =
        ⊎_elim
        (λ (e : (bit_and x y == x) ≡ false). let m = bit_missing x y (eqb-false (bit_and x y) x e) in (zero, m.0, m.1, λ s. omega (arith, s, m.2)))
        (λ (e : list_all (λ p. bit_and p.0 p.1 == p.0) (zip xs ys) ≡ false). let m = at xs ys e in (suc m.0, m.1, m.2, m.3))
        (and_cases (bit_and x y == x) (list_all (λ p. bit_and p.0 p.1 == p.0) (zip xs ys)) b)

pub both_bits : (xs ys : List ℕ) (word bit : ℕ) → IsSet xs word bit → IsSet ys word bit → IsSet (both xs ys) word bit
both_bits [] ys word bit s t = s
both_bits (x ∷ xs) [] word bit s t = t
both_bits (x ∷ xs) (y ∷ ys) zero bit s t = omega (arith, bit_at_and x y bit, s, t)
both_bits (x ∷ xs) (y ∷ ys) (suc word) bit s t = both_bits xs ys word bit s t

pub either_bits : (xs ys : List ℕ) (word bit : ℕ) → IsSet (either xs ys) word bit → IsSet xs word bit ⊎ IsSet ys word bit
either_bits [] ys word bit s = absurd (omega (arith, s, bit_at-zero bit))
either_bits (x ∷ xs) [] word bit s = absurd (omega (arith, s, bit_at-zero bit))
either_bits (x ∷ xs) (y ∷ ys) zero bit s = one (bit_at x bit) (bit_at y bit) (omega (arith, bit_at_or x y bit, s))
  where
    one : (a b : ℕ) → max a b ≡ 1 → (a ≡ 1) ⊎ (b ≡ 1)
    one zero b h = inr (omega (arith, h))
    one (suc zero) b h = inl refl
    one (suc (suc a)) b h = absurd (omega (arith, h))
either_bits (x ∷ xs) (y ∷ ys) (suc word) bit s = either_bits xs ys word bit s

-- rows that are as long lose nothing
pub bits_either : (xs ys : List ℕ) (word bit : ℕ) → length xs ≡ length ys → IsSet xs word bit ⊎ IsSet ys word bit → IsSet (either xs ys) word bit
bits_either [] [] word bit h s = ⊎_elim (λ (a : IsSet [] word bit). a) (λ (a : IsSet [] word bit). a) s
bits_either [] (y ∷ ys) word bit h s = absurd (omega (arith, h))
bits_either (x ∷ xs) [] word bit h s = absurd (omega (arith, h))
bits_either (x ∷ xs) (y ∷ ys) zero bit h s =
    ⊎_elim
    (λ (a : bit_at x bit ≡ 1). omega (arith, a, bit_at_or x y bit, bit_at-lt y bit))
    (λ (a : bit_at y bit ≡ 1). omega (arith, a, bit_at_or x y bit, bit_at-lt x bit))
    s
bits_either (x ∷ xs) (y ∷ ys) (suc word) bit h s = bits_either xs ys word bit (omega (arith, h)) s

pub length-either : (xs ys : List ℕ) → length xs ≡ length ys → length (either xs ys) ≡ length xs
length-either [] ys h = refl
length-either (x ∷ xs) [] h = absurd (omega (arith, h))
length-either (x ∷ xs) (y ∷ ys) h = ap suc (length-either xs ys (omega (arith, h)))

pub length-both : (xs ys : List ℕ) → length xs ≡ length ys → length (both xs ys) ≡ length xs
length-both [] ys h = refl
length-both (x ∷ xs) [] h = absurd (omega (arith, h))
length-both (x ∷ xs) (y ∷ ys) h = ap suc (length-both xs ys (omega (arith, h)))
