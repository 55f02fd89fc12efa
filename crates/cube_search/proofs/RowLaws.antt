-- Laws of rows.
use Rattle.std.proofs.Common.{◌≡◌, ℕ, ◌≤◌, true, false, not, ◌==◌, ◌||◌, nat_le, List, [], ◌∷◌, length, zip, bit_and, refl, ap, sym, ◌∙◌, ⊎_elim, arith, le-leb, leb-true, eq-eqb, eqb-true}
use Rattle.std.specs.List.{list_all}
use Rattle.std.specs.Int.Bits.{and_self, and_comm, and_zero_r}
use Rattle.std.proofs.lemmas.Bool.{and_parts, and_from, or_cases, or_parts, or_from, or_left, or_right, not-true, not-false, not_from_true, not_from_false, eqb-false, false_from_ne_true}
use Rattle.std.proofs.lemmas.Nat.{and_assoc}
use Rattle.cube_search.specs.Rows.{both, is_some, meets, is_within}

abbrev pub Within : List ℕ → List ℕ → Type 0
Within [] ys = Unit {0}
Within (x ∷ xs) [] = ⊥
Within (x ∷ xs) (y ∷ ys) = (bit_and x y ≡ x) × Within xs ys

from_test : (xs ys : List ℕ) → length xs ≤ length ys → list_all (λ p. bit_and p.0 p.1 == p.0) (zip xs ys) ≡ true → Within xs ys
from_test [] ys h t = tt
from_test (x ∷ xs) [] h t = absurd (omega (arith, h))
from_test (x ∷ xs) (y ∷ ys) h t =
    let p = and_parts (bit_and x y == x) (list_all (λ p. bit_and p.0 p.1 == p.0) (zip xs ys)) t in
    (eqb-true (bit_and x y) x p.0, from_test xs ys (omega (arith, h)) p.1)

to_test : (xs ys : List ℕ) → Within xs ys → (length xs ≤ length ys) × (list_all (λ p. bit_and p.0 p.1 == p.0) (zip xs ys) ≡ true)
to_test [] ys w = (omega arith, refl)
to_test (x ∷ xs) [] w = absurd w
to_test (x ∷ xs) (y ∷ ys) w =
    let r = to_test xs ys w.1 in
    (omega (arith, r.0), and_from (bit_and x y == x) (list_all (λ p. bit_and p.0 p.1 == p.0) (zip xs ys)) (eq-eqb (bit_and x y) x w.0) r.1)

pub within_from : (xs ys : List ℕ) → is_within xs ys ≡ true → Within xs ys
within_from xs ys h =
    let p = and_parts (nat_le (length xs) (length ys)) (list_all (λ p. bit_and p.0 p.1 == p.0) (zip xs ys)) h in
    from_test xs ys (leb-true (length xs) (length ys) p.0) p.1

pub within_to : (xs ys : List ℕ) → Within xs ys → is_within xs ys ≡ true
within_to xs ys w =
    let r = to_test xs ys w in
    and_from (nat_le (length xs) (length ys)) (list_all (λ p. bit_and p.0 p.1 == p.0) (zip xs ys)) (le-leb (length xs) (length ys) r.0) r.1

pub within-itself : (xs : List ℕ) → Within xs xs
within-itself [] = tt
within-itself (x ∷ xs) = (and_self x, within-itself xs)

pub within-along : (xs ys zs : List ℕ) → Within xs ys → Within ys zs → Within xs zs
within-along [] ys zs a b = tt
within-along (x ∷ xs) [] zs a b = absurd a
within-along (x ∷ xs) (y ∷ ys) [] a b = absurd b
within-along (x ∷ xs) (y ∷ ys) (z ∷ zs) a b =
    (ap (λ w. bit_and w z) (sym a.0) ∙ and_assoc z x y ∙ ap (bit_and x) b.0 ∙ a.0, within-along xs ys zs a.1 b.1)

pub both_within : (xs ys : List ℕ) → Within (both xs ys) xs
both_within [] ys = tt
both_within (x ∷ xs) [] = tt
both_within (x ∷ xs) (y ∷ ys) =
    (and_comm (bit_and x y) x ∙ sym (and_assoc y x x) ∙ ap (λ w. bit_and w y) (and_self x), both_within xs ys)

-- a wider row is set somewhere too
pub some_wider : (xs ys : List ℕ) → Within xs ys → is_some xs ≡ true → is_some ys ≡ true
some_wider [] ys w h = absurd (cc)
some_wider (x ∷ xs) [] w h = absurd w
some_wider (x ∷ xs) (y ∷ ys) w h =
    ⊎_elim
    (λ (a : not (x == 0) ≡ true). or_left (not (y == 0)) (is_some ys) (not_from_false (y == 0) (false_from_ne_true (y == 0) (λ e. set (eqb-true y 0 e) a))))
    (λ (b : is_some xs ≡ true). or_right (not (y == 0)) (is_some ys) (some_wider xs ys w.1 b))
    (or_cases (not (x == 0)) (is_some xs) h)
  where
    set : y ≡ 0 → not (x == 0) ≡ true → ⊥
    set e a =
        let none : x ≡ 0 = sym w.0 ∙ ap (bit_and x) e ∙ and_zero_r x in
        eqb-false x 0 (not-true (x == 0) a) none

-- a narrower row meets no more
pub meets_narrower : (xs ys ns : List ℕ) → Within xs ys → meets ys ns ≡ false → meets xs ns ≡ false
meets_narrower [] ys ns w h = refl
meets_narrower (x ∷ xs) [] ns w h = absurd w
meets_narrower (x ∷ xs) (y ∷ ys) [] w h = refl
meets_narrower (x ∷ xs) (y ∷ ys) (n ∷ ns) w h =
    let p = or_parts (not (bit_and y n == 0)) (meets ys ns) h in
    let none : bit_and y n ≡ 0 = eqb-true (bit_and y n) 0 (not-false (bit_and y n == 0) p.0) in
    let here : bit_and x n ≡ 0 = ap (λ v. bit_and v n) (sym w.0) ∙ and_assoc n x y ∙ ap (bit_and x) none ∙ and_zero_r x in
    or_from (not (bit_and x n == 0)) (meets xs ns) (not_from_true (bit_and x n == 0) (eq-eqb (bit_and x n) 0 here)) (meets_narrower xs ys ns w.1 p.1)

-- some bit is set in all three
pub meets_turned : (xs ys zs : List ℕ) → meets (both xs zs) ys ≡ meets (both xs ys) zs
meets_turned [] ys zs = refl
meets_turned (x ∷ xs) [] [] = refl
meets_turned (x ∷ xs) [] (z ∷ zs) = refl
meets_turned (x ∷ xs) (y ∷ ys) [] = refl
meets_turned (x ∷ xs) (y ∷ ys) (z ∷ zs) =
    let turned : bit_and (bit_and x z) y ≡ bit_and (bit_and x y) z = and_assoc y x z ∙ ap (bit_and x) (and_comm z y) ∙ sym (and_assoc z x y) in
    ap (λ w. not (w == 0) || meets (both xs zs) ys) turned ∙ ap (λ b. not (bit_and (bit_and x y) z == 0) || b) (meets_turned xs ys zs)

-- what is set in both is set somewhere where they meet
pub some_both : (xs ys : List ℕ) → is_some (both xs ys) ≡ meets xs ys
some_both [] ys = refl
some_both (x ∷ xs) [] = refl
some_both (x ∷ xs) (y ∷ ys) = ap (λ b. not (bit_and x y == 0) || b) (some_both xs ys)
