-- The numbers of the variables that are set.
use Rattle.std.proofs.Common.{◌≡◌, ◌≢◌, ℕ, zero, suc, ◌+◌, ◌<◌, ◌≤◌, ◌==◌, Bool, true, false, ◌&&◌, ◌||◌, ◌⊎◌, not, List, [], ◌∷◌, ◌++◌, ap, filter}
use Rattle.std.proofs.Common.{get_or, inl, inr, length, map, nat_lt, refl, set, subst, sym, ◌∙◌, arith}
use Rattle.std.proofs.lemmas.Bool.{cases_lt, eq-eqb, eqb-true, le-ltb, lt-ltb, ne_eqb}
use Rattle.std.proofs.lemmas.Bool.Decides.{eqb_tells}
use Rattle.std.proofs.lemmas.List.{append-nil, length-append, length-set}
use Rattle.std.proofs.lemmas.List.Elements.{filter-append, filter_agree}
use Rattle.std.proofs.lemmas.List.Folds.{list_any_at, list_any_none}
use Rattle.std.proofs.lemmas.List.FromFn.{get_or-range_with_len, length-range_with_len, map-range_with_len_more}
use Rattle.std.proofs.lemmas.Map.Views.{any-filter_same}
use Rattle.std.proofs.lemmas.Option.{slice_get_past, unwrap_or-slice_get}
use Rattle.std.proofs.lemmas.Simd.{map-map}
use Rattle.std.proofs.Math.Bool.{and-true}
use Rattle.std.specs.List.{list_any, range_with_len}
use Rattle.std.specs.Option.{option_map_or}
use Rattle.std.specs.Prelude.{All, Option, Some, None, cond, is_some, slice_get, unwrap_or}
use Rattle.set_names.proofs.Standing.{holds_next, holds_now}
use Rattle.set_names.specs.Sets.{AreSpans, codes_of, holds, is_set_at, numbers_at, sets_of}
use Rattle.set_names.specs.SoFar.{Sets, sets_behind}
use Rattle.set_names.specs.declared.spans.Spans.{Spans}

-- the numbers below a number
pub below : (m k : ℕ) → list_any (λ n. n == k) (range_with_len 0 m) ≡ nat_lt k m
below m k = by (cases_lt k m)
  where
    by : (k < m) ⊎ (m ≤ k) → list_any (λ n. n == k) (range_with_len 0 m) ≡ nat_lt k m
    by (inl inside) =
        let there : get_or (range_with_len 0 m) k 0 ≡ 0 + k = get_or-range_with_len 0 m k 0 inside in
        let long : length (range_with_len 0 m) ≡ m = length-range_with_len 0 m in
        list_any_at (λ n. n == k) (range_with_len 0 m) k 0 (omega arith) (eq-eqb (get_or (range_with_len 0 m) k 0) k (omega arith)) ∙ sym (lt-ltb k m inside)
    by (inr past) =
        let long : length (range_with_len 0 m) ≡ m = length-range_with_len 0 m in
        list_any_none (λ n. n == k) (range_with_len 0 m)
        (λ i d inside. let there : get_or (range_with_len 0 m) i d ≡ 0 + i = get_or-range_with_len 0 m i d (omega arith) in
        ne_eqb (get_or (range_with_len 0 m) i d) k (λ same. omega arith))
        ∙ sym (le-ltb k m past)

unset_past : (xs : List Spans) (point k : ℕ) → length xs ≤ k → is_set_at xs point k ≡ false
unset_past xs point k past = ap (λ o. option_map_or (holds point) o false) (slice_get_past xs k past)

-- a number is among those that are set where its variable is
pub member : (xs : List Spans) (point k : ℕ) → list_any (λ n. n == k) (numbers_at xs point) ≡ is_set_at xs point k
member xs point k =
    any-filter_same (λ n. n == k) (is_set_at xs point) (is_set_at xs point k) (λ n same. ap (is_set_at xs point) (eqb-true n k same)) (range_with_len 0 (length xs))
    ∙ ap (λ b. is_set_at xs point k && b) (below (length xs) k) ∙ by (cases_lt k (length xs))
  where
    by : (k < length xs) ⊎ (length xs ≤ k) → (is_set_at xs point k && nat_lt k (length xs)) ≡ is_set_at xs point k
    by (inl inside) = ap (λ b. is_set_at xs point k && b) (lt-ltb k (length xs) inside) ∙ and-true (is_set_at xs point k)
    by (inr past) = ap (λ b. b && nat_lt k (length xs)) (unset_past xs point k past) ∙ sym (unset_past xs point k past)

numbers_same : (xs ys : List Spans) (p q : ℕ) → length ys ≡ length xs → ((k : ℕ) → is_set_at ys q k ≡ is_set_at xs p k) → numbers_at ys q ≡ numbers_at xs p
numbers_same xs ys p q long same =
    filter_agree (is_set_at ys q) (is_set_at xs p) same (range_with_len 0 (length ys)) ∙ ap (λ n. filter (is_set_at xs p) (range_with_len 0 n)) long

range_same : (f g : ℕ → List ℕ) (a n : ℕ) → ((i : ℕ) → i < a + n → f i ≡ g i) → map f (range_with_len a n) ≡ map g (range_with_len a n)
range_same f g a zero same = refl
range_same f g a (suc n) same =
    ap (λ x. x ∷ map f (range_with_len (a + 1) n)) (same a (omega arith))
    ∙ ap (λ xs. g a ∷ xs) (range_same f g (a + 1) n (λ i inside. same i (omega arith)))

item_at : (xs : List Spans) (j : ℕ) (x : Spans) → j < length xs → x ≡ get_or xs j x → slice_get xs j ≡ Some x
item_at [] j x inside is = absurd (omega arith)
item_at (y ∷ ys) zero x inside is = ap Some (sym is)
item_at (y ∷ ys) (suc j) x inside is = item_at ys j x (omega arith) is

set_there : (xs : List Spans) (j : ℕ) (y : Spans) → j < length xs → slice_get (set xs j y) j ≡ Some y
set_there [] j y inside = absurd (omega arith)
set_there (x ∷ xs) zero y inside = refl
set_there (x ∷ xs) (suc j) y inside = set_there xs j y (omega arith)

set_apart : (xs : List Spans) (j k : ℕ) (y : Spans) → k ≢ j → slice_get (set xs j y) k ≡ slice_get xs k
set_apart [] j k y other = refl
set_apart (x ∷ xs) zero zero y other = absurd (other refl)
set_apart (x ∷ xs) zero (suc k) y other = refl
set_apart (x ∷ xs) (suc j) zero y other = refl
set_apart (x ∷ xs) (suc j) (suc k) y other = set_apart xs j k y (λ same. other (ap suc same))

-- whether a variable is set at a point that all spans stand at
pub set_now : (xs : List Spans) (points k : ℕ) (s : Spans) → All (AreSpans points) xs → k < length xs → s ≡ get_or xs k s → is_some s.since ≡ list_any (λ n. n == k) (numbers_at xs points)
set_now xs points k s are inside is =
    sym (member xs points k ∙ ap (λ o. option_map_or (holds points) o false) (item_at xs k s inside is) ∙ holds_now points s (subst (AreSpans points) (sym is) (are k s inside)))

pub none_now : (xs : List Spans) (points k : ℕ) → length xs ≤ k → false ≡ list_any (λ n. n == k) (numbers_at xs points)
none_now xs points k past = sym (member xs points k ∙ unset_past xs points k past)

-- where the spans of one variable are replaced
replaced : (xs : List Spans) (j point k : ℕ) (y : Spans) → j < length xs → is_set_at (set xs j y) point k ≡ cond (k == j) (holds point y) (is_set_at xs point k)
replaced xs j point k y inside = by (eqb_tells k j)
  where
    by : (((k == j) ≡ true) × (k ≡ j)) ⊎ (((k == j) ≡ false) × (k ≢ j)) → is_set_at (set xs j y) point k ≡ cond (k == j) (holds point y) (is_set_at xs point k)
    by (inl same) =
        ap (is_set_at (set xs j y) point) same.1 ∙ ap (λ o. option_map_or (holds point) o false) (set_there xs j y inside)
        ∙ sym (ap (λ b. cond b (holds point y) (is_set_at xs point k)) same.0)
    by (inr other) =
        ap (λ o. option_map_or (holds point) o false) (set_apart xs j k y other.1)
        ∙ sym (ap (λ b. cond b (holds point y) (is_set_at xs point k)) other.0)

-- and it is set where it was
stays : (xs : List Spans) (j point k : ℕ) (x y : Spans) → j < length xs → x ≡ get_or xs j x → holds point y ≡ holds point x → is_set_at (set xs j y) point k ≡ is_set_at xs point k
stays xs j point k x y inside is same = replaced xs j point k y inside ∙ by (k == j) (eqb-true k j)
  where
    by : (b : Bool) → (b ≡ true → k ≡ j) → cond b (holds point y) (is_set_at xs point k) ≡ is_set_at xs point k
    by true here = same ∙ sym (ap (is_set_at xs point) (here refl) ∙ ap (λ o. option_map_or (holds point) o false) (item_at xs j x inside is))
    by false here = refl

before_same : (xs : List Spans) (j points : ℕ) (x y : Spans) → j < length xs → x ≡ get_or xs j x → ((p : ℕ) → p < points → holds p y ≡ holds p x)
    → map (numbers_at (set xs j y)) (range_with_len 0 points) ≡ map (numbers_at xs) (range_with_len 0 points)
before_same xs j points x y inside is same =
    range_same (numbers_at (set xs j y)) (numbers_at xs) 0 points
    (λ p before. numbers_same xs (set xs j y) p p (length-set xs j y) (λ k. stays xs j p k x y inside is (same p (omega arith))))

abbrev sets : ℕ → List (List ℕ) → List ℕ → Sets
sets variables before now = record { variables = variables; before = before; now = now }

sets_same : (v w : ℕ) (b d : List (List ℕ)) (n m : List ℕ) → v ≡ w → b ≡ d → n ≡ m → sets v b n ≡ sets w d m
sets_same v w b d n m same as_well too = ap (λ x. sets x b n) same ∙ ap (λ x. sets w x n) as_well ∙ ap (sets w d) too

-- one variable is replaced by a set one, an unset one, and one that is set where it was
pub set_one : (xs : List Spans) (j points : ℕ) (x y : Spans) → j < length xs → x ≡ get_or xs j x
    → ((p : ℕ) → p < points → holds p y ≡ holds p x) → holds points y ≡ true
    → sets_behind points (set xs j y) ≡ record (sets_behind points xs) {
      now = filter (λ k. (k == j) || list_any (λ n. n == k) (numbers_at xs points)) (range_with_len 0 (length xs));
    }
set_one xs j points x y inside is same now =
    sets_same _ _ _ _ _ _ (length-set xs j y) (before_same xs j points x y inside is same)
    (filter_agree _ _ (λ k. replaced xs j points k y inside ∙ by k (k == j)) (range_with_len 0 (length (set xs j y)))
    ∙ ap (λ n. filter (λ k. (k == j) || list_any (λ n. n == k) (numbers_at xs points)) (range_with_len 0 n)) (length-set xs j y))
  where
    by : (k : ℕ) (b : Bool) → cond b (holds points y) (is_set_at xs points k) ≡ (b || list_any (λ n. n == k) (numbers_at xs points))
    by k true = now
    by k false = sym (member xs points k)

pub unset_one : (xs : List Spans) (j points : ℕ) (x y : Spans) → j < length xs → x ≡ get_or xs j x
    → ((p : ℕ) → p < points → holds p y ≡ holds p x) → holds points y ≡ false
    → sets_behind points (set xs j y) ≡ record (sets_behind points xs) {
      now = filter (λ k. not (k == j) && list_any (λ n. n == k) (numbers_at xs points)) (range_with_len 0 (length xs));
    }
unset_one xs j points x y inside is same now =
    sets_same _ _ _ _ _ _ (length-set xs j y) (before_same xs j points x y inside is same)
    (filter_agree _ _ (λ k. replaced xs j points k y inside ∙ by k (k == j)) (range_with_len 0 (length (set xs j y)))
    ∙ ap (λ n. filter (λ k. not (k == j) && list_any (λ n. n == k) (numbers_at xs points)) (range_with_len 0 n)) (length-set xs j y))
  where
    by : (k : ℕ) (b : Bool) → cond b (holds points y) (is_set_at xs points k) ≡ (not b && list_any (λ n. n == k) (numbers_at xs points))
    by k true = now
    by k false = sym (member xs points k)

pub same_one : (xs : List Spans) (j points : ℕ) (x y : Spans) → j < length xs → x ≡ get_or xs j x
    → ((p : ℕ) → p < points → holds p y ≡ holds p x) → holds points y ≡ holds points x
    → sets_behind points (set xs j y) ≡ sets_behind points xs
same_one xs j points x y inside is same now =
    sets_same _ _ _ _ _ _ (length-set xs j y) (before_same xs j points x y inside is same)
    (numbers_same xs (set xs j y) points points (length-set xs j y) (λ k. stays xs j points k x y inside is now))

-- which ones are set then
pub set_members : (xs : List Spans) (j points : ℕ) (y : Spans) → j < length xs → holds points y ≡ true → (k : ℕ)
    → list_any (λ n. n == k) (numbers_at (set xs j y) points) ≡ ((k == j) || list_any (λ n. n == k) (numbers_at xs points))
set_members xs j points y inside now k = member (set xs j y) points k ∙ replaced xs j points k y inside ∙ by (k == j)
  where
    by : (b : Bool) → cond b (holds points y) (is_set_at xs points k) ≡ (b || list_any (λ n. n == k) (numbers_at xs points))
    by true = now
    by false = sym (member xs points k)

pub unset_members : (xs : List Spans) (j points : ℕ) (y : Spans) → j < length xs → holds points y ≡ false → (k : ℕ)
    → list_any (λ n. n == k) (numbers_at (set xs j y) points) ≡ (not (k == j) && list_any (λ n. n == k) (numbers_at xs points))
unset_members xs j points y inside now k = member (set xs j y) points k ∙ replaced xs j points k y inside ∙ by (k == j)
  where
    by : (b : Bool) → cond b (holds points y) (is_set_at xs points k) ≡ (not b && list_any (λ n. n == k) (numbers_at xs points))
    by true = now
    by false = sym (member xs points k)

-- they are in order
pub by_number : (xs : List Spans) (points : ℕ) → numbers_at xs points ≡ filter (λ k. list_any (λ n. n == k) (numbers_at xs points)) (range_with_len 0 (length xs))
by_number xs points = filter_agree (is_set_at xs points) (λ k. list_any (λ n. n == k) (numbers_at xs points)) (λ k. sym (member xs points k)) (range_with_len 0 (length xs))

-- one more variable, which is not set
added : (xs : List Spans) (e : Spans) (point k : ℕ) → holds point e ≡ false → is_set_at (xs ++ e ∷ []) point k ≡ is_set_at xs point k
added [] e point zero unset = unset
added [] e point (suc k) unset = refl
added (x ∷ xs) e point zero unset = refl
added (x ∷ xs) e point (suc k) unset = added xs e point k unset

pub range_more : (a n : ℕ) → range_with_len a (suc n) ≡ range_with_len a n ++ (a + n) ∷ []
range_more a zero = ap (λ k. k ∷ []) (omega arith)
range_more a (suc n) =
    let further : a + 1 + n ≡ a + suc n = omega arith in
    ap (λ ks. a ∷ ks) (range_more (a + 1) n ∙ ap (λ k. range_with_len (a + 1) n ++ k ∷ []) further)

numbers_added : (xs : List Spans) (e : Spans) (point : ℕ) → holds point e ≡ false → numbers_at (xs ++ e ∷ []) point ≡ numbers_at xs point
numbers_added xs e point unset =
    let long : length (xs ++ e ∷ []) ≡ suc (length xs) = omega (arith, length-append xs (e ∷ [])) in
    let p = is_set_at xs point in
    let count = length xs in
    filter_agree (is_set_at (xs ++ e ∷ []) point) p (λ k. added xs e point k unset) (range_with_len 0 (length (xs ++ e ∷ [])))
    ∙ ap (λ n. filter p (range_with_len 0 n)) long
    ∙ ap (filter p) (range_more 0 count)
    ∙ filter-append p (range_with_len 0 count) ((0 + count) ∷ [])
    ∙ ap (λ b. numbers_at xs point ++ cond b ((0 + count) ∷ []) []) (unset_past xs point (0 + count) (omega arith))
    ∙ append-nil (numbers_at xs point)

pub declared : (xs : List Spans) (e : Spans) (points : ℕ) → ((p : ℕ) → holds p e ≡ false)
    → sets_behind points (xs ++ e ∷ []) ≡ record (sets_behind points xs) { variables = length xs + 1 }
declared xs e points unset =
    sets_same _ _ _ _ _ _ (length-append xs (e ∷ []))
    (range_same (numbers_at (xs ++ e ∷ [])) (numbers_at xs) 0 points (λ p before. numbers_added xs e p (unset p)))
    (numbers_added xs e points (unset points))

-- the next point
pub passed : (xs : List Spans) (points : ℕ) → All (AreSpans points) xs
    → sets_behind (points + 1) xs ≡ record (sets_behind points xs) { before = map (numbers_at xs) (range_with_len 0 points) ++ numbers_at xs points ∷ [] }
passed xs points are =
    sets_same _ _ _ _ _ _ refl (map-range_with_len_more (numbers_at xs) 0 points points (omega arith))
    (numbers_same xs xs points (points + 1) refl (λ k. by k (cases_lt k (length xs))))
  where
    by : (k : ℕ) → (k < length xs) ⊎ (length xs ≤ k) → is_set_at xs (points + 1) k ≡ is_set_at xs points k
    by k (inl inside) = there (slice_get xs k) refl
      where
        there : (found : Option Spans) → slice_get xs k ≡ found → option_map_or (holds (points + 1)) found false ≡ option_map_or (holds points) found false
        there None is = refl
        there (Some x) is =
            let item : get_or xs k x ≡ x = sym (unwrap_or-slice_get xs k x) ∙ ap (λ o. unwrap_or o x) is in
            holds_next points x (subst (AreSpans points) item (are k x inside))
    by k (inr past) = unset_past xs (points + 1) k past ∙ sym (unset_past xs points k past)

-- all points with the exit
pub finished : (xs : List Spans) (points statics : ℕ)
    → sets_of false statics points xs ≡ map (codes_of statics) (map (numbers_at xs) (range_with_len 0 points) ++ numbers_at xs points ∷ [])
finished xs points statics =
    let one_more : suc points ≡ points + 1 = omega arith in
    sym (map-map (codes_of statics) (numbers_at xs) (range_with_len 0 (suc points)))
    ∙ ap (map (codes_of statics)) (ap (λ n. map (numbers_at xs) (range_with_len 0 n)) one_more ∙ map-range_with_len_more (numbers_at xs) 0 points points (omega arith))
