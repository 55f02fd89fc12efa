-- The place after one more character, and how far a place can be.
use Rattle.std.proofs.Common.{◌≡◌, ℕ, ◌+◌, ◌≤◌, ◌-◌, ◌≢◌, Bool, cond, true, false, not, ◌==◌, List, [], ◌∷◌, ◌++◌, length, count_by, ap, ◌∙◌, arith, length-drop}
use Rattle.std.specs.List.{after_last, suffix_len, prefix_len}
use Rattle.std.proofs.lemmas.List.{reverse-append}
use Rattle.std.proofs.lemmas.List.Sums.{sum_by_push, count_by-le-length, suffix_len-le-length}
use Rattle.std.proofs.lemmas.Bool.{eq-eqb, ne_eqb}
use Rattle.easl_model.specs.declared.place.Place.{Place}
use Rattle.easl_model.specs.{line_end, place_after}

abbrev ends : ℕ → Bool
ends c = c == line_end

abbrev goes_on : ℕ → Bool
goes_on c = not (ends c)

col_after : (cs : List ℕ) → length (after_last ends cs) ≡ suffix_len goes_on cs
col_after cs = omega (arith, length-drop (length cs - suffix_len goes_on cs) cs, suffix_len-le-length goes_on cs)

suffix_more : (cs : List ℕ) (c : ℕ) → suffix_len goes_on (cs ++ c ∷ []) ≡ cond (goes_on c) (1 + suffix_len goes_on cs) 0
suffix_more cs c = ap (prefix_len goes_on) (reverse-append cs (c ∷ []))

same_place : (k l m n : ℕ) → k ≡ l → m ≡ n → (let P : Place = record { line = k; col = m } in P) ≡ record { line = l; col = n }
same_place k l m n e f =
    let with_line : ℕ → Place = λ x. record { line = x; col = m } in
    let with_col : ℕ → Place = λ x. record { line = l; col = x } in
    ap with_line e ∙ ap with_col f

pub place_line_end : (cs : List ℕ) (c : ℕ) → c ≡ line_end → place_after (cs ++ c ∷ []) ≡ record { line = (place_after cs).line + 1; col = 1 }
place_line_end cs c e =
    let test : ends c ≡ true = eq-eqb c line_end e in
    let lines : count_by ends (cs ++ c ∷ []) ≡ count_by ends cs + 1 = sum_by_push (λ x. cond (ends x) 1 0) cs c ∙ ap (λ b. count_by ends cs + cond b 1 0) test in
    let cols : length (after_last ends (cs ++ c ∷ [])) ≡ 0 = col_after (cs ++ c ∷ []) ∙ suffix_more cs c ∙ ap (λ b. cond (not b) (1 + suffix_len goes_on cs) 0) test in
    same_place _ _ _ _ (ap (λ n. n + 1) lines) (ap (λ n. n + 1) cols)

pub place_other : (cs : List ℕ) (c : ℕ) → c ≢ line_end → place_after (cs ++ c ∷ []) ≡ record { line = (place_after cs).line; col = (place_after cs).col + 1 }
place_other cs c e =
    let test : ends c ≡ false = ne_eqb c line_end e in
    let lines : count_by ends (cs ++ c ∷ []) ≡ count_by ends cs + 0 = sum_by_push (λ x. cond (ends x) 1 0) cs c ∙ ap (λ b. count_by ends cs + cond b 1 0) test in
    let cols : suffix_len goes_on (cs ++ c ∷ []) ≡ 1 + suffix_len goes_on cs = suffix_more cs c ∙ ap (λ b. cond (not b) (1 + suffix_len goes_on cs) 0) test in
    same_place _ _ _ _ (omega (arith, lines)) (omega (arith, cols, col_after cs, col_after (cs ++ c ∷ [])))

pub line_within : (cs : List ℕ) → (place_after cs).line ≤ length cs + 1
line_within cs = omega (arith, count_by-le-length ends cs)

pub col_within : (cs : List ℕ) → (place_after cs).col ≤ length cs + 1
col_within cs = omega (arith, col_after cs, suffix_len-le-length goes_on cs)
