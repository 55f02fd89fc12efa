-- Spans in order.
use Rattle.std.proofs.Common.{◌≡◌, ℕ, zero, suc, ◌+◌, ◌<◌, ◌≤◌, Bool, true, false, ◌&&◌, ◌||◌, ◌⊎◌, not, List, [], ◌∷◌, ◌++◌, ap, get_or, inl}
use Rattle.std.proofs.Common.{inr, length, nat_lt, refl, sym, ◌∙◌, arith}
use Rattle.std.proofs.lemmas.Bool.{cases_lt, le-ltb, lt-ltb, ltb-false, ltb-true}
use Rattle.std.proofs.Math.Bool.{and-false, and-true, or-false}
use Rattle.std.proofs.lemmas.List.Folds.{list_any-append, list_any_at, list_any_none}
use Rattle.std.proofs.lemmas.List.{get_or_default}
use Rattle.std.specs.List.{list_any}
use Rattle.set_names.specs.Sets.{Ascends, end_of, within}
use Rattle.set_names.specs.declared.spans.Span.{Span}

each : (from : ℕ) (xs : List Span) (i : ℕ) (d : Span) → Ascends from xs → i < length xs → (from ≤ (get_or xs i d).first) × ((get_or xs i d).first < (get_or xs i d).behind)
each from [] i d order below = absurd (omega arith)
each from (s ∷ rest) zero d order below = (order.0, order.1)
each from (s ∷ rest) (suc i) d order below =
    let later = each s.behind rest i d order.2 (omega arith) in
    let begins = order.0 in
    let ends = order.1 in
    let begins_later = later.0 in
    (omega arith, later.1)

-- an earlier one ends before a later one begins
pub apart : (from : ℕ) (xs : List Span) (i j : ℕ) (d : Span) → Ascends from xs → i < j → j < length xs → (get_or xs i d).behind ≤ (get_or xs j d).first
apart from [] i j d order before below = absurd (omega arith)
apart from (s ∷ rest) i zero d order before below = absurd (omega arith)
apart from (s ∷ rest) zero (suc j) d order before below = (each s.behind rest j d order.2 (omega arith)).0
apart from (s ∷ rest) (suc i) (suc j) d order before below = apart s.behind rest i j d order.2 (omega arith) (omega arith)

-- and begins before that begins
pub rises : (xs : List Span) (i j : ℕ) (d : Span) → Ascends 0 xs → i ≤ j → j < length xs → (get_or xs i d).first ≤ (get_or xs j d).first
rises xs i j d order upto below = by (nat_lt i j) refl
  where
    by : (b : Bool) → nat_lt i j ≡ b → (get_or xs i d).first ≤ (get_or xs j d).first
    by true before =
        let earlier = ltb-true i j before in
        let ends = apart 0 xs i j d order earlier below in
        let begins = (each 0 xs i d order (omega arith)).1 in
        omega arith
    by false other =
        let after = ltb-false i j other in
        let same : i ≡ j = omega arith in
        rw same (omega arith)

-- before it begins, behind it, and in it
before_it : (point : ℕ) (s : Span) → point < s.first → within point s ≡ false
before_it point s is = ap (λ b. not b && nat_lt point s.behind) (lt-ltb point s.first is)

behind_it : (point : ℕ) (s : Span) → s.behind ≤ point → within point s ≡ false
behind_it point s is = ap (λ b. not (nat_lt point s.first) && b) (le-ltb point s.behind is) ∙ and-false (not (nat_lt point s.first))

begun_is : (point : ℕ) (s : Span) → s.first ≤ point → within point s ≡ nat_lt point s.behind
begun_is point s is = ap (λ b. not b && nat_lt point s.behind) (le-ltb point s.first is)

-- a point can only be in the last span that begins there or before
pub last_begun : (xs : List Span) (point count : ℕ) (d : Span) → Ascends 0 xs → count < length xs
    → ((i : ℕ) (e : Span) → i < count + 1 → (get_or xs i e).first ≤ point)
    → ((i : ℕ) (e : Span) → count + 1 ≤ i → i < length xs → point < (get_or xs i e).first)
    → nat_lt point (get_or xs count d).behind ≡ list_any (within point) xs
last_begun xs point count d order below begun later = by (nat_lt point (get_or xs count d).behind) refl
  where
    here : within point (get_or xs count d) ≡ nat_lt point (get_or xs count d).behind
    here = begun_is point (get_or xs count d) (begun count d (omega arith))

    other : (i : ℕ) (e : Span) → i < length xs → nat_lt point (get_or xs count d).behind ≡ false → within point (get_or xs i e) ≡ false
    other i e inside past = by_place (cases_lt i count) (cases_lt count i)
      where
        by_place : (i < count) ⊎ (count ≤ i) → (count < i) ⊎ (i ≤ count) → within point (get_or xs i e) ≡ false
        by_place (inl earlier) q =
            let ends = apart 0 xs i count e order earlier below in
            let begins = begun count e (omega arith) in
            behind_it point (get_or xs i e) (omega arith)
        by_place (inr upto) (inl behind) = before_it point (get_or xs i e) (later i e (omega arith) inside)
        by_place (inr upto) (inr down) =
            let same : i ≡ count = omega arith in
            let item : get_or xs i e ≡ get_or xs count d = ap (λ n. get_or xs n e) same ∙ get_or_default xs count e d below in
            let ended = ltb-false point (get_or xs count d).behind past in
            ap (within point) item ∙ behind_it point (get_or xs count d) ended

    by : (b : Bool) → nat_lt point (get_or xs count d).behind ≡ b → b ≡ list_any (within point) xs
    by true is = sym (list_any_at (within point) xs count d below (here ∙ is))
    by false past = sym (list_any_none (within point) xs (λ i e inside. other i e inside past))

-- a point is in none where none begins there or before
pub none_begun : (xs : List Span) (point : ℕ) → ((i : ℕ) (e : Span) → i < length xs → point < (get_or xs i e).first) → list_any (within point) xs ≡ false
none_begun xs point later = list_any_none (within point) xs (λ i e inside. before_it point (get_or xs i e) (later i e inside))

-- the search goes on behind a span that begins at the point or before, and else before it
pub goes_behind : (xs : List Span) (point middle : ℕ) (z : Span) → Ascends 0 xs → middle < length xs → (get_or xs middle z).first ≤ point
    → (i : ℕ) (d : Span) → i < middle + 1 → (get_or xs i d).first ≤ point
goes_behind xs point middle z order inside begins i d upto =
    let before = rises xs i middle d order (omega arith) inside in
    let same : (get_or xs middle d).first ≡ (get_or xs middle z).first = ap (λ s. s.first) (get_or_default xs middle d z inside) in
    omega arith

pub goes_before : (xs : List Span) (point middle : ℕ) (z : Span) → Ascends 0 xs → middle < length xs → point < (get_or xs middle z).first
    → (i : ℕ) (d : Span) → middle ≤ i → i < length xs → point < (get_or xs i d).first
goes_before xs point middle z order inside later i d from below =
    let behind = rises xs middle i d order from below in
    let same : (get_or xs middle d).first ≡ (get_or xs middle z).first = ap (λ s. s.first) (get_or_default xs middle d z inside) in
    omega arith

end_grows : (from : ℕ) (xs : List Span) → Ascends from xs → from ≤ end_of from xs
end_grows from [] order = omega arith
end_grows from (s ∷ rest) order =
    let begins = order.0 in
    let ends = order.1 in
    let later = end_grows s.behind rest order.2 in
    omega arith

-- no span holds a point behind them all
pub past_end : (from : ℕ) (xs : List Span) (point : ℕ) → Ascends from xs → end_of from xs ≤ point → list_any (within point) xs ≡ false
past_end from [] point order past = refl
past_end from (s ∷ rest) point order past =
    let later = end_grows s.behind rest order.2 in
    ap (λ b. b || list_any (within point) rest) (behind_it point s (omega arith)) ∙ past_end s.behind rest point order.2 past

-- one more span behind the others
pub ascends_more : (from : ℕ) (xs : List Span) (s : Span) → Ascends from xs → end_of from xs ≤ s.first → s.first < s.behind → Ascends from (xs ++ s ∷ [])
ascends_more from [] s order behind some = (behind, some, tt)
ascends_more from (x ∷ xs) s order behind some = (order.0, order.1, ascends_more x.behind xs s order.2 behind some)

pub end_more : (from : ℕ) (xs : List Span) (s : Span) → end_of from (xs ++ s ∷ []) ≡ s.behind
end_more from [] s = refl
end_more from (x ∷ xs) s = end_more x.behind xs s

pub closes : (xs : List Span) (s : Span) (point : ℕ) → point < s.behind → list_any (within point) (xs ++ s ∷ []) ≡ (list_any (within point) xs || not (nat_lt point s.first))
closes xs s point inside =
    list_any-append (within point) xs (s ∷ [])
    ∙ ap (λ b. list_any (within point) xs || b)
    (or-false (within point s) ∙ ap (λ b. not (nat_lt point s.first) && b) (lt-ltb point s.behind inside) ∙ and-true (not (nat_lt point s.first)))
