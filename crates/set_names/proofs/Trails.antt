-- Variables that are assigned, as they come and go.
use Rattle.std.proofs.Common.{◌≡◌, ◌≢◌, ℕ, zero, suc, ◌+◌, ◌-◌, ◌<◌, ◌≤◌, ◌==◌, Bool, true, false, ◌&&◌, ◌||◌, ◌⊎◌, not, List, [], ◌∷◌, ◌++◌, ap, inl, inr, length, refl, subst, sym, take, ◌∙◌, arith}
use Rattle.std.proofs.Common.{filter, get_or, map, nat_lt}
use Rattle.std.proofs.Math.Bool.{or-false, or_comm}
use Rattle.std.proofs.Math.Seq.{get_or-append_seam, take-append_seam}
use Rattle.std.proofs.lemmas.Bool.{cases_lt, eq-eqb, eqb-true, le-ltb, lt-ltb, ne_eqb, or_cases}
use Rattle.std.proofs.lemmas.Bool.Decides.{eqb_tells}
use Rattle.std.proofs.lemmas.List.{get_or_past, length-append}
use Rattle.std.proofs.lemmas.List.Folds.{list_any-append, list_any_at}
use Rattle.std.proofs.lemmas.List.FromFn.{get_or-map-range_with_len, length-map-range_with_len}
use Rattle.std.specs.List.{range_with_len}
use Rattle.std.specs.Prelude.{IfSome, MatchOption, OnErr, OnOk, Option, Some, None, Result, Ok, Err, cond, is_err}
use Rattle.set_names.specs.Names.{AreKept, Once, is_in}
use Rattle.set_names.specs.SoFar.{Sets}

abbrev Tells : Bool → Type 0
Tells true = ⊥
Tells false = Unit {0}

false-not : false ≡ true → ⊥
false-not h = subst Tells h tt

pub on_error : {T E : Type 0} (r : Result T E) (P : Type 0) → is_err r ≡ true → OnErr r P → P
on_error (Ok x) P is holds = absurd (false-not is)
on_error (Err e) P is holds = holds

pub on_success : {T E : Type 0} (r : Result T E) (P : Type 0) → is_err r ≡ false → OnOk r P → P
on_success (Ok x) P is holds = holds
on_success (Err e) P is holds = absurd (false-not (sym is))

-- a number that is put behind others

turned : (j k : ℕ) → (k == j) ≡ (j == k)
turned j k = by (eqb_tells j k)
  where
    by : (((j == k) ≡ true) × (j ≡ k)) ⊎ (((j == k) ≡ false) × (j ≢ k)) → (k == j) ≡ (j == k)
    by (inl same) = eq-eqb k j (sym same.1) ∙ sym same.0
    by (inr other) = ne_eqb k j (λ is. other.1 (sym is)) ∙ sym other.0

pub any_last : (xs : List ℕ) (k j : ℕ) → is_in (xs ++ k ∷ []) j ≡ ((j == k) || is_in xs j)
any_last xs k j =
    list_any-append (λ n. n == j) xs (k ∷ [])
    ∙ ap (λ b. is_in xs j || b) (or-false (k == j) ∙ turned j k)
    ∙ or_comm (is_in xs j) (j == k)

neither : (a b : Bool) → (a || b) ≡ false → (a ≡ false) × (b ≡ false)
neither true b h = absurd (false-not (sym h))
neither false b h = (refl, h)

once_more : (xs : List ℕ) (k : ℕ) → Once xs → is_in xs k ≡ false → Once (xs ++ k ∷ [])
once_more [] k once apart = (refl, tt)
once_more (x ∷ xs) k once apart =
    let parts : ((x == k) ≡ false) × (is_in xs k ≡ false) = neither (x == k) (is_in xs k) apart in
    (any_last xs k x ∙ ap (λ b. b || is_in xs x) parts.0 ∙ once.0, once_more xs k once.1 parts.1)

once_less : (xs : List ℕ) (k : ℕ) → Once (xs ++ k ∷ []) → Once xs × (is_in xs k ≡ false)
once_less [] k once = (tt, refl)
once_less (x ∷ xs) k once =
    let rest : Once xs × (is_in xs k ≡ false) = once_less xs k once.1 in
    let parts : ((x == k) ≡ false) × (is_in xs x ≡ false) = neither (x == k) (is_in xs x) (sym (any_last xs k x) ∙ once.0) in
    ((parts.1, rest.0), ap (λ b. b || is_in xs k) parts.0 ∙ rest.1)

-- flags

pub flag_at : (p : ℕ → Bool) (v k : ℕ) → get_or (map p (range_with_len 0 v)) k false ≡ (nat_lt k v && p k)
flag_at p v k = by (cases_lt k v)
  where
    by : (k < v) ⊎ (v ≤ k) → get_or (map p (range_with_len 0 v)) k false ≡ (nat_lt k v && p k)
    by (inl inside) = get_or-map-range_with_len p 0 v k k false inside (omega arith) ∙ sym (ap (λ b. b && p k) (lt-ltb k v inside))
    by (inr past) =
        let long : length (map p (range_with_len 0 v)) ≡ v = length-map-range_with_len p 0 v in
        get_or_past (map p (range_with_len 0 v)) k false (omega arith) ∙ sym (ap (λ b. b && p k) (le-ltb k v past))

pub filter_within : (p q : ℕ → Bool) (a n : ℕ) → ((k : ℕ) → k < a + n → p k ≡ q k) → filter p (range_with_len a n) ≡ filter q (range_with_len a n)
filter_within p q a zero same = refl
filter_within p q a (suc n) same =
    ap (λ b. cond b (a ∷ filter p (range_with_len (a + 1) n)) (filter p (range_with_len (a + 1) n))) (same a (omega arith))
    ∙ ap (λ ks. cond (q a) (a ∷ ks) ks) (filter_within p q (a + 1) n (λ k inside. same k (omega arith)))

-- what is kept

abbrev Stays : List ℕ → List ℕ → Option (List Bool) → Type 0
Stays trail gone left = IfSome left (λ flags. (k : ℕ) → get_or flags k false ≡ true → is_in gone k ≡ false → is_in trail k ≡ true)

stays_by : (left : Option (List Bool)) (trail gone new newly : List ℕ) → ((k : ℕ) → is_in newly k ≡ false → (is_in gone k ≡ false → is_in trail k ≡ true)
    → is_in new k ≡ true) → Stays trail gone left → Stays new newly left
stays_by None trail gone new newly by stays = tt
stays_by (Some flags) trail gone new newly by stays = λ k flag apart. by k apart (stays k flag)

pub kept_set : (v : ℕ) (old new : Sets) (trail gone : List ℕ) (left : Option (List Bool)) (k : ℕ) → AreKept v old trail gone left → k < v
    → false ≡ is_in old.now k → new.variables ≡ old.variables → ((j : ℕ) → is_in new.now j ≡ ((j == k) || is_in old.now j))
    → AreKept v new (trail ++ k ∷ []) gone left
kept_set v old new trail gone left k kept there apart many members = record {
  many = many ∙ kept.many;
  now = λ j. members j ∙ ap (λ b. (j == k) || b) (kept.now j) ∙ sym (any_last trail k j);
  inside = λ j is. inside j (or_cases (j == k) (is_in trail j) (sym (any_last trail k j) ∙ is));
  once = once_more trail k kept.once (sym (apart ∙ kept.now k));
  stays = stays_by left trail gone (trail ++ k ∷ []) gone (λ j out here. any_last trail k j ∙ or_right (j == k) (is_in trail j) (here out)) kept.stays;
}
  where
    inside : (j : ℕ) → ((j == k) ≡ true) ⊎ (is_in trail j ≡ true) → j < v
    inside j (inl same) = subst (λ n. n < v) (sym (eqb-true j k same)) there
    inside j (inr is) = kept.inside j is

    or_right : (a b : Bool) → b ≡ true → (a || b) ≡ true
    or_right true b h = refl
    or_right false b h = h

pub kept_gone : (v : ℕ) (old new : Sets) (trail gone : List ℕ) (left : Option (List Bool)) (k : ℕ) → AreKept v old trail gone left → new ≡ old
    → AreKept v new trail (gone ++ k ∷ []) left
kept_gone v old new trail gone left k kept same = record {
  many = ap (λ (s : Sets). s.variables) same ∙ kept.many;
  now = λ j. ap (λ (s : Sets). is_in s.now j) same ∙ kept.now j;
  inside = kept.inside;
  once = kept.once;
  stays = stays_by left trail gone trail (gone ++ k ∷ []) (λ j out here. here (neither (j == k) (is_in gone j) (sym (any_last gone k j) ∙ out)).1) kept.stays;
}

pub kept_popped : (v : ℕ) (old new : Sets) (rest trail gone newly : List ℕ) (left : Option (List Bool)) (k : ℕ) → AreKept v old trail gone left
    → trail ≡ rest ++ k ∷ [] → newly ≡ gone ++ k ∷ []
    → new.variables ≡ old.variables → ((j : ℕ) → is_in new.now j ≡ (not (j == k) && is_in old.now j))
    → AreKept v new rest newly left
kept_popped v old new rest trail gone newly left k kept last added many members = record {
  many = many ∙ kept.many;
  now = λ j. members j ∙ ap (λ b. not (j == k) && b) (kept.now j ∙ ap (λ xs. is_in xs j) last ∙ any_last rest k j) ∙ by j (j == k) (eqb-true j k);
  inside = λ j is. kept.inside j (ap (λ xs. is_in xs j) last ∙ any_last rest k j ∙ or_right (j == k) (is_in rest j) is);
  once = parts.0;
  stays = stays_by left trail gone rest newly (λ j out here. left_of j (neither (j == k) (is_in gone j) (sym (any_last gone k j) ∙ sym (ap (λ xs. is_in xs j) added) ∙ out)) here) kept.stays;
}
  where
    parts : Once rest × (is_in rest k ≡ false)
    parts = once_less rest k (subst Once last kept.once)

    or_right : (a b : Bool) → b ≡ true → (a || b) ≡ true
    or_right true b h = refl
    or_right false b h = h

    by : (j : ℕ) (same : Bool) → (same ≡ true → j ≡ k) → (not same && (same || is_in rest j)) ≡ is_in rest j
    by j true is = sym (ap (is_in rest) (is refl) ∙ parts.1)
    by j false is = refl

    left_of : (j : ℕ) → ((j == k) ≡ false) × (is_in gone j ≡ false) → (is_in gone j ≡ false → is_in trail j ≡ true) → is_in rest j ≡ true
    left_of j apart here =
        sym (ap (λ b. b || is_in rest j) apart.0) ∙ sym (ap (λ xs. is_in xs j) last ∙ any_last rest k j) ∙ here apart.1

-- the last of some
pub popped : (r : Option ℕ) (xs ys : List ℕ) → MatchOption r ((xs ≡ []) × (ys ≡ [])) (λ last. xs ≡ ys ++ last ∷ []) → 0 < length xs
    → (xs ≡ ys ++ get_or xs (length xs - 1) 0 ∷ []) × (ys ≡ take (length xs - 1) xs)
popped None xs ys is many = absurd (let none : length xs ≡ 0 = ap length is.0 in omega arith)
popped (Some last) xs ys is many =
    let long : length xs ≡ length ys + 1 = ap length is ∙ length-append ys (last ∷ []) in
    let at : length xs - 1 ≡ length ys = omega arith in
    let here : get_or xs (length xs - 1) 0 ≡ last =
    ap (λ n. get_or xs n 0) at ∙ ap (λ zs. get_or zs (length ys) 0) is ∙ get_or-append_seam ys last [] 0 in
    (is ∙ ap (λ n. ys ++ n ∷ []) (sym here), sym (ap (λ n. take n xs) at ∙ ap (take (length ys)) is ∙ take-append_seam ys (last ∷ [])))

pub last_inside : (v : ℕ) (s : Sets) (trail gone : List ℕ) (left : Option (List Bool)) → AreKept v s trail gone left → 0 < length trail
    → get_or trail (length trail - 1) 0 < s.variables
last_inside v s trail gone left kept many =
    let there : is_in trail (get_or trail (length trail - 1) 0) ≡ true =
    list_any_at (λ n. n == get_or trail (length trail - 1) 0) trail (length trail - 1) 0 (omega arith) (eq-eqb _ _ refl) in
    subst (λ n. get_or trail (length trail - 1) 0 < n) (sym kept.many) (kept.inside _ there)

-- those behind the first so many are given up one by one
pub cut_more : (kept count : ℕ) (xs : List ℕ) → kept ≤ count → take kept (take count xs) ≡ take kept xs
cut_more zero count xs few = refl
cut_more (suc kept) zero xs few = absurd (omega arith)
cut_more (suc kept) (suc count) [] few = refl
cut_more (suc kept) (suc count) (x ∷ xs) few = ap (λ ys. x ∷ ys) (cut_more kept count xs (omega arith))

pub all_taken : (kept : ℕ) (xs : List ℕ) → length xs ≤ kept → take kept xs ≡ xs
all_taken zero [] few = refl
all_taken zero (x ∷ xs) few = absurd (omega arith)
all_taken (suc kept) [] few = refl
all_taken (suc kept) (x ∷ xs) few = ap (λ ys. x ∷ ys) (all_taken kept xs (omega arith))
