-- What the tests of rows say of configurations, each a word and a bit.
use Rattle.std.proofs.Common.{◌≡◌, ℕ, zero, suc, true, false, not, ◌==◌, List, [], ◌∷◌, get_or, bit_and, sym, subst, ◌∙◌, ⊎_elim, arith, eqb-true}
use Rattle.std.specs.Int.{bit_at}
use Rattle.std.specs.Int.Bits.{and_zero_r}
use Rattle.std.proofs.lemmas.Bool.{or_left, or_right, or_cases, not-true, not_from_false, eqb-false, false_from_ne_true}
use Rattle.std.proofs.lemmas.Nat.Bits.{bit_at_and, bit_at-lt, bit_at-zero}
use Rattle.cube_search.specs.Cubes.{IsSet, row_of}
use Rattle.cube_search.specs.Lists.{Each}
use Rattle.cube_search.specs.Rows.{both, is_some, meets}
use Rattle.cube_search.proofs.Bits.{bit_missing, both_bits, within_bits}
use Rattle.cube_search.proofs.RowLaws.{both_within}

-- some bit is set
abbrev pub SomeSet : List ℕ → Type 0
SomeSet xs = (word bit : ℕ) × IsSet xs word bit

-- some bit is set in both
abbrev pub SomeBoth : List ℕ → List ℕ → Type 0
SomeBoth xs ys = (word bit : ℕ) × IsSet xs word bit × IsSet ys word bit

-- a word that is not 0 has a bit
has_bit : (x : ℕ) → (x == 0) ≡ false → (i : ℕ) × (bit_at x i ≡ 1)
has_bit x h =
    let m = bit_missing x 0 (λ e. eqb-false x 0 h (sym e ∙ and_zero_r x)) in
    (m.0, m.1)

not_zero : (x i : ℕ) → bit_at x i ≡ 1 → (x == 0) ≡ false
not_zero x i s = false_from_ne_true (x == 0)
    (λ e. let none : x ≡ 0 = eqb-true x 0 e in let b : bit_at 0 i ≡ 1 = subst (λ y. bit_at y i ≡ 1) none s in omega (arith, b, bit_at-zero i))

pub some_set : (xs : List ℕ) → is_some xs ≡ true → SomeSet xs
some_set [] h = absurd (cc)
some_set (x ∷ xs) h =
    ⊎_elim
    (λ (a : not (x == 0) ≡ true). let b = has_bit x (not-true (x == 0) a) in (zero, b.0, b.1))
    (λ (a : is_some xs ≡ true). let b = some_set xs a in (suc b.0, b.1, b.2))
    (or_cases (not (x == 0)) (is_some xs) h)

pub set_some : (xs : List ℕ) (word bit : ℕ) → IsSet xs word bit → is_some xs ≡ true
set_some [] word bit s = absurd (omega (arith, s, bit_at-zero bit))
set_some (x ∷ xs) zero bit s = or_left (not (x == 0)) (is_some xs) (not_from_false (x == 0) (not_zero x bit s))
set_some (x ∷ xs) (suc word) bit s = or_right (not (x == 0)) (is_some xs) (set_some xs word bit s)

-- the rows meet exactly where some bit is set in both
pub meets_some : (xs ys : List ℕ) → meets xs ys ≡ true → SomeBoth xs ys
meets_some [] ys h = absurd (cc)
meets_some (x ∷ xs) [] h = absurd (cc)
meets_some (x ∷ xs) (y ∷ ys) h =
    ⊎_elim
    (λ (a : not (bit_and x y == 0) ≡ true).
    let b = has_bit (bit_and x y) (not-true (bit_and x y == 0) a) in
    let e = bit_at_and x y b.0 in
    (zero, b.0, omega (arith, e, b.1, bit_at-lt x b.0, bit_at-lt y b.0), omega (arith, e, b.1, bit_at-lt x b.0, bit_at-lt y b.0)))
    (λ (a : meets xs ys ≡ true). let b = meets_some xs ys a in (suc b.0, b.1, b.2, b.3))
    (or_cases (not (bit_and x y == 0)) (meets xs ys) h)

pub some_meets : (xs ys : List ℕ) (word bit : ℕ) → IsSet xs word bit → IsSet ys word bit → meets xs ys ≡ true
some_meets [] ys word bit s t = absurd (omega (arith, s, bit_at-zero bit))
some_meets (x ∷ xs) [] word bit s t = absurd (omega (arith, t, bit_at-zero bit))
some_meets (x ∷ xs) (y ∷ ys) zero bit s t =
    or_left (not (bit_and x y == 0)) (meets xs ys) (not_from_false (bit_and x y == 0) (not_zero (bit_and x y) bit (omega (arith, bit_at_and x y bit, s, t))))
some_meets (x ∷ xs) (y ∷ ys) (suc word) bit s t = or_right (not (bit_and x y == 0)) (meets xs ys) (some_meets xs ys word bit s t)

bits_right : (xs ys : List ℕ) (word bit : ℕ) → IsSet (both xs ys) word bit → IsSet ys word bit
bits_right [] ys word bit s = absurd (omega (arith, s, bit_at-zero bit))
bits_right (x ∷ xs) [] word bit s = s
bits_right (x ∷ xs) (y ∷ ys) zero bit s = omega (arith, bit_at_and x y bit, s, bit_at-lt x bit, bit_at-lt y bit)
bits_right (x ∷ xs) (y ∷ ys) (suc word) bit s = bits_right xs ys word bit s

-- A cube's row has the configurations of the row that it began with in which each of its literals is true.
pub row_bits : (rows : List (List ℕ)) (row cube : List ℕ) (word bit : ℕ) → IsSet (row_of rows row cube) word bit
    → IsSet row word bit × Each (λ l. IsSet (get_or rows l []) word bit) cube
row_bits rows row [] word bit s = (s, tt)
row_bits rows row (l ∷ ls) word bit s =
    let r = row_bits rows (both row (get_or rows l [])) ls word bit s in
    (within_bits (both row (get_or rows l [])) row word bit (both_within row (get_or rows l [])) r.0, (bits_right row (get_or rows l []) word bit r.0, r.1))

pub bits_row : (rows : List (List ℕ)) (row cube : List ℕ) (word bit : ℕ) → IsSet row word bit → Each (λ l. IsSet (get_or rows l []) word bit) cube
    → IsSet (row_of rows row cube) word bit
bits_row rows row [] word bit s each = s
bits_row rows row (l ∷ ls) word bit s each =
    bits_row rows (both row (get_or rows l [])) ls word bit (both_bits row (get_or rows l []) word bit s each.0) each.1
