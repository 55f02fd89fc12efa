-- Names by their codes.
use Rattle.std.proofs.Common.{◌≡◌, ◌≢◌, ℕ, suc, ◌*◌, ◌+◌, ◌<◌, ◌≤◌, ◌==◌, Bool, true, false, ◌||◌, ◌⊎◌, List, [], ◌∷◌, ap, inl, inr, length, map}
use Rattle.std.proofs.Common.{nat_lt, refl, slice_index_or, sym, ◌∙◌, arith}
use Rattle.std.proofs.lemmas.Bool.{eq-eqb, ne_eqb}
use Rattle.std.proofs.lemmas.Bool.Decides.{eqb_tells}
use Rattle.std.proofs.lemmas.List.Folds.{list_any-append}
use Rattle.std.proofs.lemmas.List.FromFn.{get_or-map-range_with_len, length-map-range_with_len}
use Rattle.std.proofs.Math.Bool.{or-false}
use Rattle.std.specs.List.{list_any, range_with_len}
use Rattle.set_names.proofs.Numbers.{below, member}
use Rattle.set_names.specs.Sets.{codes_of, is_set_at, numbers_at, sets_of, static_code, statics_at, variable_code}
use Rattle.set_names.specs.declared.spans.Spans.{Spans}

any_map : (p q : ℕ → Bool) (f : ℕ → ℕ) → ((k : ℕ) → p (f k) ≡ q k) → (ks : List ℕ) → list_any p (map f ks) ≡ list_any q ks
any_map p q f same [] = refl
any_map p q f same (k ∷ ks) = ap (λ b. b || list_any p (map f ks)) (same k) ∙ ap (λ b. q k || b) (any_map p q f same ks)

none_map : (p : ℕ → Bool) (f : ℕ → ℕ) → ((k : ℕ) → p (f k) ≡ false) → (ks : List ℕ) → list_any p (map f ks) ≡ false
none_map p f fails [] = refl
none_map p f fails (k ∷ ks) = ap (λ b. b || list_any p (map f ks)) (fails k) ∙ none_map p f fails ks

abbrev is : ℕ → ℕ → Bool
is name code = code == name

parts : (name m : ℕ) (numbers : List ℕ)
    → list_any (is name) (codes_of m numbers) ≡ (list_any (is name) (map static_code (range_with_len 0 m)) || list_any (is name) (map variable_code numbers))
parts name m numbers = list_any-append (is name) (map static_code (range_with_len 0 m)) (map variable_code numbers)

static_is : (number k : ℕ) → is (4 * number) (static_code k) ≡ (k == number)
static_is number k = by (eqb_tells k number)
  where
    by : (((k == number) ≡ true) × (k ≡ number)) ⊎ (((k == number) ≡ false) × (k ≢ number)) → is (4 * number) (static_code k) ≡ (k == number)
    by (inl same) = eq-eqb (4 * k) (4 * number) (ap (λ n. 4 * n) same.1) ∙ sym same.0
    by (inr other) = ne_eqb (4 * k) (4 * number) (λ same. other.1 (omega arith)) ∙ sym other.0

variable_is : (number k : ℕ) → is (4 * number + 1) (variable_code k) ≡ (k == number)
variable_is number k = by (eqb_tells k number)
  where
    by : (((k == number) ≡ true) × (k ≡ number)) ⊎ (((k == number) ≡ false) × (k ≢ number)) → is (4 * number + 1) (variable_code k) ≡ (k == number)
    by (inl same) = eq-eqb (4 * k + 1) (4 * number + 1) (ap (λ n. 4 * n + 1) same.1) ∙ sym same.0
    by (inr other) = ne_eqb (4 * k + 1) (4 * number + 1) (λ same. other.1 (omega arith)) ∙ sym other.0

read : (is_start : Bool) (statics points : ℕ) (xs : List Spans) (point : ℕ) → point < length (sets_of is_start statics points xs)
    → slice_index_or (sets_of is_start statics points xs) point [] ≡ codes_of (statics_at is_start statics point) (numbers_at xs point)
read is_start statics points xs point inside =
    let f = λ (p : ℕ). codes_of (statics_at is_start statics p) (numbers_at xs p) in
    let long : length (sets_of is_start statics points xs) ≡ suc points = length-map-range_with_len f 0 (suc points) in
    get_or-map-range_with_len f 0 (suc points) point point [] (omega arith) (omega arith)

-- by the numbers of statics and variables
pub static_named : (m : ℕ) (numbers : List ℕ) (name number : ℕ) → name ≡ 4 * number → nat_lt number m ≡ list_any (is name) (codes_of m numbers)
static_named m numbers name number named =
    sym (ap (λ n. list_any (is n) (codes_of m numbers)) named
    ∙ parts (4 * number) m numbers
    ∙ ap (λ b. list_any (is (4 * number)) (map static_code (range_with_len 0 m)) || b)
    (none_map (is (4 * number)) variable_code (λ k. ne_eqb (4 * k + 1) (4 * number) (λ same. omega arith)) numbers)
    ∙ or-false (list_any (is (4 * number)) (map static_code (range_with_len 0 m)))
    ∙ any_map (is (4 * number)) (λ k. k == number) static_code (static_is number) (range_with_len 0 m)
    ∙ below m number)

pub variable_named : (m : ℕ) (numbers : List ℕ) (name number : ℕ) → name ≡ 4 * number + 1
    → list_any (λ k. k == number) numbers ≡ list_any (is name) (codes_of m numbers)
variable_named m numbers name number named =
    sym (ap (λ n. list_any (is n) (codes_of m numbers)) named
    ∙ parts (4 * number + 1) m numbers
    ∙ ap (λ b. b || list_any (is (4 * number + 1)) (map variable_code numbers))
    (none_map (is (4 * number + 1)) static_code (λ k. ne_eqb (4 * k) (4 * number + 1) (λ same. omega arith)) (range_with_len 0 m))
    ∙ any_map (is (4 * number + 1)) (λ k. k == number) variable_code (variable_is number) numbers)

pub none_named : (m : ℕ) (numbers : List ℕ) (name number kind : ℕ) → name ≡ 4 * number + kind → 2 ≤ kind → kind < 4
    → false ≡ list_any (is name) (codes_of m numbers)
none_named m numbers name number kind named more few =
    sym (parts name m numbers
    ∙ ap (λ b. b || list_any (is name) (map variable_code numbers)) (none_map (is name) static_code (λ k. ne_eqb (4 * k) name (λ same. omega arith)) (range_with_len 0 m))
    ∙ none_map (is name) variable_code (λ k. ne_eqb (4 * k + 1) name (λ same. omega arith)) numbers)

-- the sets of a procedure, and whether a name is in that of a point
pub static_there : (is_start : Bool) (statics points : ℕ) (xs : List Spans) (point name number : ℕ) → name ≡ 4 * number → point < length (sets_of is_start statics points xs)
    → nat_lt number (statics_at is_start statics point) ≡ list_any (λ code. code == name) (slice_index_or (sets_of is_start statics points xs) point [])
static_there is_start statics points xs point name number named inside =
    static_named (statics_at is_start statics point) (numbers_at xs point) name number named ∙ sym (ap (list_any (is name)) (read is_start statics points xs point inside))

pub variable_there : (is_start : Bool) (statics points : ℕ) (xs : List Spans) (point name number : ℕ) → name ≡ 4 * number + 1 → point < length (sets_of is_start statics points xs)
    → is_set_at xs point number ≡ list_any (λ code. code == name) (slice_index_or (sets_of is_start statics points xs) point [])
variable_there is_start statics points xs point name number named inside =
    sym (member xs point number)
    ∙ variable_named (statics_at is_start statics point) (numbers_at xs point) name number named
    ∙ sym (ap (list_any (is name)) (read is_start statics points xs point inside))

pub none_there : (is_start : Bool) (statics points : ℕ) (xs : List Spans) (point name number kind : ℕ) → name ≡ 4 * number + kind → 2 ≤ kind → kind < 4
    → point < length (sets_of is_start statics points xs)
    → false ≡ list_any (λ code. code == name) (slice_index_or (sets_of is_start statics points xs) point [])
none_there is_start statics points xs point name number kind named more few inside =
    none_named (statics_at is_start statics point) (numbers_at xs point) name number kind named more few
    ∙ sym (ap (list_any (is name)) (read is_start statics points xs point inside))
