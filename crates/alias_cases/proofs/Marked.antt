-- What the bits of rows tell of literals and configurations.
use Rattle.std.proofs.Common.{◌≡◌, ◌↔◌, ℕ, zero, suc, ◌+◌, ◌*◌, ◌/◌, ◌%◌, ◌^◌, ◌<◌, ◌≤◌, ◌==◌, Bool, true, false, List, [], ◌∷◌, length, get_or, map, take, min, All, Some, refl, ap, sym, subst, ◌∙◌, ⊎_elim, arith, bit_and, eq-or-lt_of_le}
use Rattle.std.specs.Prelude.{slice_get, slice_index}
use Rattle.std.specs.Int.{bit_at}
use Rattle.std.specs.Int.Bits.{and_zero_r}
use Rattle.std.specs.List.{AllZip}
use Rattle.std.specs.Option.{option_map_or}
use Rattle.std.proofs.lemmas.Bool.{cases_order, false_from_ne_true}
use Rattle.std.proofs.lemmas.Bool.Decides.{eqb_tells}
use Rattle.std.proofs.lemmas.Nat.Bits.{bit_at_above, bit_at_and, bit_at-lt, bit_at-zero}
use Rattle.access_paths.specs.{literal_holds}
use Rattle.access_paths.specs.declared.term.Literal.{Literal}
use Rattle.case_model.specs.{by_blocks}
use Rattle.cube_search.specs.Cubes.{IsSet}
use Rattle.cube_search.specs.Truths.{IsRowOf}
use Rattle.cube_search.proofs.Bits.{bit_missing}
use Rattle.alias_cases.specs.{AreAllSet, AreMet, AreRowsOf, IsChosen, case_count, is_true_at, literal_count, truths_of}
use Rattle.alias_cases.specs.declared.case.Cases.{Cases}
use Rattle.alias_cases.specs.declared.rows.Rows.{Rows}

-- an item that is there, whatever stands for those that are not
pub any_default : (rows : List (List ℕ)) (n : ℕ) (d e : List ℕ) → n < length rows → get_or rows n d ≡ get_or rows n e
any_default [] n d e h = absurd (omega arith)
any_default (r ∷ rows) zero d e h = refl
any_default (r ∷ rows) (suc n) d e h = any_default rows n d e (omega arith)

-- an item of the first list belongs to each of the second
of_zip : {X : Type 0} (R : X → List ℕ → Type 0) (xs : List X) (ys : List (List ℕ)) (n : ℕ) → AllZip R xs ys → n < length ys
    → (x : X) × (slice_get xs n ≡ Some x) × R x (get_or ys n [])
of_zip R [] [] n zip h = absurd (omega arith)
of_zip R [] (y ∷ ys) n zip h = absurd zip
of_zip R (x ∷ xs) [] n zip h = absurd (omega arith)
of_zip R (x ∷ xs) (y ∷ ys) zero zip h = (x, refl, zip.0)
of_zip R (x ∷ xs) (y ∷ ys) (suc n) zip h = of_zip R xs ys n zip.1 (omega arith)

of_map : {Y : Type 0} (f : List ℕ → Y) (xs : List (List ℕ)) (k : ℕ) → k < length xs → slice_get (map f xs) k ≡ Some (f (get_or xs k []))
of_map f [] k h = absurd (omega arith)
of_map f (x ∷ xs) zero h = refl
of_map f (x ∷ xs) (suc k) h = of_map f xs k (omega arith)

-- the bit is set exactly where the literal is true
pub bit_true : (cases : Cases) (literals : List Literal) (rows : Rows) (n k : ℕ) → AreRowsOf cases literals rows → n < literal_count rows → k < case_count rows
    → IsSet (get_or rows.rows.items n []) (k / 64) (k % 64) ↔ (is_true_at cases literals n k ≡ true)
bit_true cases literals rows n k of within below = (
  (λ set. is ∙ (let t : Some (holds at.0) ≡ Some true = sym stands ∙ ((at.2.bits (k / 64, k % 64)).0 set).1 in cc)),
  (λ t. (at.2.bits (k / 64, k % 64)).1 (omega arith, stands ∙ ap Some (sym is ∙ t))),
)
  where
    holds : Literal → Bool
    holds = literal_holds (by_blocks cases.terms.list (get_or cases.list k []))

    at : (l : Literal) × (slice_get literals n ≡ Some l) × IsRowOf (truths_of cases l) (get_or rows.rows.items n [])
    at = of_zip (λ l row. IsRowOf (truths_of cases l) row) literals rows.rows.items n of.rows within

    is : is_true_at cases literals n k ≡ holds at.0
    is = ap (λ o. option_map_or holds o false) at.1

    whole : 64 * (k / 64) + k % 64 ≡ k
    whole = omega arith

    stands : slice_get (truths_of cases at.0) (64 * (k / 64) + k % 64) ≡ Some (holds at.0)
    stands =
        ap (slice_get (truths_of cases at.0)) whole
        ∙ of_map (λ bs. literal_holds (by_blocks cases.terms.list bs) at.0) cases.list k (subst (λ m. k < m) of.count below)

-- the bit tells whether the literal is true
pub bit_tells : (cases : Cases) (literals : List Literal) (rows : Rows) (n k : ℕ) → AreRowsOf cases literals rows → n < literal_count rows → k < case_count rows
    → (bit_at (slice_index (get_or rows.rows.items n []) (k / 64)) (k % 64) == 1) ≡ is_true_at cases literals n k
bit_tells cases literals rows n k of within below =
    by (is_true_at cases literals n k) (bit_true cases literals rows n k of within below)
  where
    bit : ℕ
    bit = bit_at (slice_index (get_or rows.rows.items n []) (k / 64)) (k % 64)

    by : (b : Bool) → (bit ≡ 1) ↔ (b ≡ true) → (bit == 1) ≡ b
    by b both =
        ⊎_elim
        (λ (t : ((bit == 1) ≡ true) × (bit ≡ 1)). t.0 ∙ sym (both.0 t.1))
        (λ (f : ((bit == 1) ≡ false) × (bit ≡ 1 → ⊥)). f.0 ∙ sym (false_from_ne_true b (λ e. f.1 (both.1 e))))
        (eqb_tells bit 1)

-- a word that is not 0 has a bit that is set
pub some_bit : (x : ℕ) → x < 2 ^ 64 → (x ≡ 0 → ⊥) → (bit : ℕ) × (bit < 64) × (bit_at x bit ≡ 1)
some_bit x below some =
    let b = bit_missing x 0 (λ e. some (sym e ∙ and_zero_r x)) in
    (b.0, ⊎_elim (λ (e : b.0 ≡ 64). past b.0 b.1 (omega (arith, e))) (⊎_elim (λ (l : b.0 < 64). l) (λ (l : 64 < b.0). past b.0 b.1 (omega (arith, l)))) (cases_order b.0 64), b.1)
  where
    past : (bit : ℕ) → bit_at x bit ≡ 1 → 64 ≤ bit → bit < 64
    past bit set high = absurd (omega (arith, set, bit_at_above x 64 bit below high))

-- one literal more
pub set_more : (rows : List (List ℕ)) (numbers : List ℕ) (i word left bits bit : ℕ) → i < length numbers
    → (bit_at left bit ≡ 1 ↔ ((bit_at bits bit ≡ 1) × AreAllSet rows (take i numbers) word bit))
    → bit_at (bit_and left (slice_index (get_or rows (slice_index numbers i) []) word)) bit ≡ 1
    ↔ ((bit_at bits bit ≡ 1) × AreAllSet rows (take (i + 1) numbers) word bit)
set_more rows numbers i word left bits bit within before = (
  (λ set. let b = before.0 (omega (arith, both, set, bit_at-lt left bit, bit_at-lt more bit)) in
      (b.0, subst (λ m. All P (take m numbers)) one (more_all numbers i within b.1 (omega (arith, both, set, bit_at-lt left bit, bit_at-lt more bit))))),
  (λ all.
      let longer : All P (take (suc i) numbers) = subst (λ m. All P (take m numbers)) (sym one) all.1 in
      omega (arith, both, before.1 (all.0, fewer_all numbers i within longer), last_one numbers i within longer)),
)
  where
    more : ℕ
    more = slice_index (get_or rows (slice_index numbers i) []) word

    both : bit_at (bit_and left more) bit ≡ min (bit_at left bit) (bit_at more bit)
    both = bit_at_and left more bit

    one : suc i ≡ i + 1
    one = omega arith

    P : ℕ → Type 0
    P n = IsSet (get_or rows n []) word bit

    more_all : (ns : List ℕ) (i : ℕ) → i < length ns → All P (take i ns) → P (slice_index ns i) → All P (take (suc i) ns)
    more_all [] i h all last k d l = absurd (omega arith)
    more_all (n ∷ ns) zero h all last zero d l = last
    more_all (n ∷ ns) zero h all last (suc k) d l = absurd (omega arith)
    more_all (n ∷ ns) (suc i) h all last zero d l = all 0 d (omega arith)
    more_all (n ∷ ns) (suc i) h all last (suc k) d l = more_all ns i (omega arith) (λ j e m. all (suc j) e (omega arith)) last k d (omega arith)

    fewer_all : (ns : List ℕ) (i : ℕ) → i < length ns → All P (take (suc i) ns) → All P (take i ns)
    fewer_all [] i h all k d l = absurd (omega arith)
    fewer_all (n ∷ ns) zero h all k d l = absurd (omega arith)
    fewer_all (n ∷ ns) (suc i) h all zero d l = all 0 d (omega arith)
    fewer_all (n ∷ ns) (suc i) h all (suc k) d l = fewer_all ns i (omega arith) (λ j e m. all (suc j) e (omega arith)) k d (omega arith)

    last_one : (ns : List ℕ) (i : ℕ) → i < length ns → All P (take (suc i) ns) → P (slice_index ns i)
    last_one [] i h all = absurd (omega arith)
    last_one (n ∷ ns) zero h all = all 0 0 (omega arith)
    last_one (n ∷ ns) (suc i) h all = last_one ns i (omega arith) (λ j e m. all (suc j) e (omega arith))

-- in no chosen configuration of the first words are all these literals true
abbrev pub AreNotMet : List (List ℕ) → List ℕ → List ℕ → ℕ → Type 0
AreNotMet rows numbers chosen words = (k : ℕ) → k / 64 < words → IsChosen chosen k → AreAllSet rows numbers (k / 64) (k % 64) → ⊥

-- one word more, where no bit is left
pub none_more : (rows : List (List ℕ)) (numbers chosen : List ℕ) (words left : ℕ) → left ≡ 0
    → ((bit : ℕ) → bit_at left bit ≡ 1 ↔ ((bit_at (slice_index chosen words) bit ≡ 1) × AreAllSet rows numbers words bit))
    → AreNotMet rows numbers chosen words → AreNotMet rows numbers chosen (words + 1)
none_more rows numbers chosen words left is_zero tells before k below is all =
    ⊎_elim
    (λ (e : k / 64 ≡ words).
    let set : bit_at left (k % 64) ≡ 1 = (tells (k % 64)).1
    (subst (λ w. bit_at (slice_index chosen w) (k % 64) ≡ 1) e is, subst (λ w. AreAllSet rows numbers w (k % 64)) e all) in
    omega (arith, ap (λ n. bit_at n (k % 64)) (sym is_zero) ∙ set, bit_at-zero (k % 64)))
    (λ (l : k / 64 < words). before k l is all)
    (eq-or-lt_of_le (let most : k / 64 ≤ words = omega (arith, below) in most))

-- they are met in no configuration
pub none_met : (cases : Cases) (literals : List Literal) (rows : Rows) (numbers chosen : List ℕ) (words : ℕ) → AreRowsOf cases literals rows
    → All (λ n. n < literal_count rows) numbers → length chosen ≤ words → AreNotMet rows.rows.items numbers chosen words → AreMet cases literals numbers chosen → ⊥
none_met cases literals rows numbers chosen words of range whole none met =
    none k (inside chosen (k / 64) met.2) met.2
    (λ i d h. (bit_true cases literals rows (get_or numbers i d) k of (range i d h) (subst (λ m. k < m) (sym of.count) met.1)).1 (met.3 i d h))
  where
    k : ℕ
    k = met.0

    past : (xs : List ℕ) (word : ℕ) → IsSet xs word (k % 64) → word < length xs
    past [] word set = absurd (omega (arith, set, bit_at-zero (k % 64)))
    past (x ∷ xs) zero set = omega arith
    past (x ∷ xs) (suc word) set = let l = past xs word set in omega (arith, l)

    inside : (xs : List ℕ) (word : ℕ) → IsSet chosen word (k % 64) → word < words
    inside xs word set = let l = past chosen word set in omega (arith, l, whole)

-- they are met where a bit is left
pub some_met : (cases : Cases) (literals : List Literal) (rows : Rows) (numbers chosen : List ℕ) (word left : ℕ) → AreRowsOf cases literals rows
    → All (λ n. n < literal_count rows) numbers → ((k : ℕ) → IsChosen chosen k → k < case_count rows) → left < 2 ^ 64 → (left ≡ 0 → ⊥)
    → ((bit : ℕ) → bit_at left bit ≡ 1 ↔ ((bit_at (slice_index chosen word) bit ≡ 1) × AreAllSet rows.rows.items numbers word bit))
    → AreMet cases literals numbers chosen
some_met cases literals rows numbers chosen word left of range last below some tells = (
  k,
  subst (λ m. k < m) of.count within,
  chosen_so,
  λ i d h. (bit_true cases literals rows (get_or numbers i d) k of (range i d h) within).0
      (subst (λ w. IsSet (get_or rows.rows.items (get_or numbers i d) []) w (k % 64)) (sym at_word)
      (subst (λ b. IsSet (get_or rows.rows.items (get_or numbers i d) []) word b) (sym at_bit) (set.1 i d h))),
)
  where
    found : (bit : ℕ) × (bit < 64) × (bit_at left bit ≡ 1)
    found = some_bit left below some

    bit : ℕ
    bit = found.0

    set : (bit_at (slice_index chosen word) bit ≡ 1) × AreAllSet rows.rows.items numbers word bit
    set = (tells bit).0 found.2

    k : ℕ
    k = 64 * word + bit

    at_word : k / 64 ≡ word
    at_word = omega (arith, found.1)

    at_bit : k % 64 ≡ bit
    at_bit = omega (arith, found.1)

    chosen_so : IsChosen chosen k
    chosen_so = subst (λ w. IsSet chosen w (k % 64)) (sym at_word) (subst (λ b. IsSet chosen word b) (sym at_bit) set.0)

    within : k < case_count rows
    within = last k chosen_so
