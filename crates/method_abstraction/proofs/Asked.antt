-- Questions that are added one by one.
use Rattle.std.proofs.Common.{◌≡◌, ℕ, suc, ◌+◌, ◌-◌, ◌<◌, ◌≤◌, Bool, true, false, cond, List, [], ◌∷◌, ◌++◌, ◌∙◌, Some, if◌then◌else◌, drop, map, slice_get, refl, sym, ap, append_assoc, append-nil, add-one, arith}
use Rattle.std.specs.List.{filter, range_with_len}
use Rattle.std.proofs.lemmas.List.{drop_more}
use Rattle.std.proofs.lemmas.List.FromFn.{map-range_with_len_more}
use Rattle.std.proofs.lemmas.Option.{get_or_from_slice_get, slice_get_within}
use Rattle.easl_model.specs.declared.form.Method.{Method}
use Rattle.access_paths.specs.declared.term.Family.{Family}
use Rattle.method_abstraction.specs.{clause_count, clauses_from, result_sets, updates_by}
use Rattle.method_abstraction.specs.declared.entry.Question.{Question}
use Rattle.method_abstraction.specs.declared.entry.Question.TheVariants.{Clause, Update}

drop_found : {X : Type 0} (xs : List X) (n : ℕ) (x : X) → slice_get xs n ≡ Some x → drop n xs ≡ x ∷ drop (n + 1) xs
drop_found xs n x found =
    drop_more xs n x (slice_get_within xs n x found) ∙ ap (λ y. y ∷ drop (n + 1) xs) (get_or_from_slice_get xs n x x found)

added : {X : Type 0} (found more rest next all : List X) → next ≡ found ++ more → found ++ (more ++ rest) ≡ all → next ++ rest ≡ all
added found more rest next all e h = ap (λ q. q ++ rest) e ∙ append_assoc found more rest ∙ h

-- those of one more clause
pub one_more_clause : (method n : ℕ) (start found next : List Question) → found ≡ start ++ map (λ k. Clause method k) (range_with_len 1 n)
    → next ≡ found ++ Clause method (n + 1) ∷ [] → next ≡ start ++ map (λ k. Clause method k) (range_with_len 1 (n + 1))
one_more_clause method n start found next h e =
    e ∙ ap (λ q. q ++ Clause method (n + 1) ∷ []) h ∙ append_assoc start (map (λ k. Clause method k) (range_with_len 1 n)) (Clause method (n + 1) ∷ [])
    ∙ ap (λ t. start ++ t) (sym (map-range_with_len_more (λ k. Clause method k) 1 n (n + 1) (omega arith)))

-- those on the clauses of one more method
pub clauses_added : (n count : ℕ) (ms : List Method) (m : Method) (found next all : List Question)
    → slice_get ms n ≡ Some m → count ≡ clause_count m → next ≡ found ++ map (λ k. Clause n k) (range_with_len 1 count)
    → found ++ clauses_from n (drop n ms) ≡ all → next ++ clauses_from (n + 1) (drop (n + 1) ms) ≡ all
clauses_added n count ms m found next all at many e h =
    added found (map (λ k. Clause n k) (range_with_len 1 (clause_count m))) (clauses_from (n + 1) (drop (n + 1) ms)) next all
    (e ∙ ap (λ c. found ++ map (λ k. Clause n k) (range_with_len 1 c)) many)
    (ap (λ k. found ++ (map (λ k. Clause n k) (range_with_len 1 (clause_count m)) ++ clauses_from k (drop (n + 1) ms))) (add-one n)
    ∙ ap (λ left. found ++ clauses_from n left) (sym (drop_found ms n m at)) ∙ h)

-- those on a family after one more method
pub updates_added : (number : ℕ) (family : Family) (n : ℕ) (ms : List Method) (m : Method) (found next all : List Question)
    → slice_get ms n ≡ Some m → next ≡ found ++ map (λ results. Update n results number) (result_sets m family)
    → found ++ updates_by number family n (drop n ms) ≡ all → next ++ updates_by number family (n + 1) (drop (n + 1) ms) ≡ all
updates_added number family n ms m found next all at e h =
    added found (map (λ results. Update n results number) (result_sets m family)) (updates_by number family (n + 1) (drop (n + 1) ms)) next all e
    (ap (λ k. found ++ (map (λ results. Update n results number) (result_sets m family) ++ updates_by number family k (drop (n + 1) ms))) (add-one n)
    ∙ ap (λ left. found ++ updates_by number family n left) (sym (drop_found ms n m at)) ∙ h)

picked : (f : ℕ → Question) (b : Bool) (x : ℕ) (rest : List ℕ) → map f (cond b (x ∷ rest) rest) ≡ (if b then f x ∷ [] else []) ++ map f rest
picked f true x rest = refl
picked f false x rest = refl

range_left : (r n : ℕ) → r < n → range_with_len r (n - r) ≡ r ∷ range_with_len (r + 1) (n - (r + 1))
range_left r n lt = let e : n - r ≡ suc (n - (r + 1)) = omega arith in ap (range_with_len r) e

-- that of one more number below n, where it passes
pub one_more_picked : (p : ℕ → Bool) (f : ℕ → Question) (r n : ℕ) (found next all : List Question) → r < n
    → next ≡ found ++ (if p r then f r ∷ [] else [])
    → found ++ map f (filter p (range_with_len r (n - r))) ≡ all → next ++ map f (filter p (range_with_len (r + 1) (n - (r + 1)))) ≡ all
one_more_picked p f r n found next all lt e h =
    added found (if p r then f r ∷ [] else []) (map f (filter p (range_with_len (r + 1) (n - (r + 1))))) next all e
    (ap (λ t. found ++ t) (sym (picked f (p r) r (filter p (range_with_len (r + 1) (n - (r + 1))))))
    ∙ ap (λ left. found ++ map f (filter p left)) (sym (range_left r n lt)) ∙ h)

-- once no number is left, all are there
pub all_picked : (p : ℕ → Bool) (f : ℕ → Question) (r n : ℕ) (found all : List Question) → n ≤ r
    → found ++ map f (filter p (range_with_len r (n - r))) ≡ all → found ≡ all
all_picked p f r n found all none h =
    let e : n - r ≡ 0 = omega arith in
    sym (append-nil found) ∙ ap (λ k. found ++ map f (filter p (range_with_len r k))) (sym e) ∙ h
