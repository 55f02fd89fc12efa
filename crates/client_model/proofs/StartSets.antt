-- At the point of each initialiser the statics before it are set, and behind the initialisers all of them.
use Rattle.std.proofs.Common.{◌≡◌, ◌≢◌, ℕ, zero, suc, ◌+◌, ◌<◌, ◌≤◌, ◌==◌, ◌⊎◌, true, false, List, [], ◌∷◌, ◌++◌, ap, arith, filter, inl, inr}
use Rattle.std.proofs.Common.{◌||◌, append_assoc, length, map, min, nat_lt, refl, sym, take, ◌∙◌}
use Rattle.std.proofs.lemmas.Bool.{eq-eqb, le-ltb, lt-ltb, ne_eqb}
use Rattle.std.proofs.lemmas.Bool.Decides.{eqb_tells}
use Rattle.std.proofs.lemmas.List.{append-nil}
use Rattle.std.proofs.lemmas.List.Elements.{filter_agree}
use Rattle.std.proofs.lemmas.List.FromFn.{map-range_with_len_more}
use Rattle.std.proofs.Math.Nat.{min-eq_left, min-eq_right}
use Rattle.std.specs.List.{flat_map, list_any, range_with_len}
use Rattle.std.specs.Prelude.{cond}
use Rattle.client_model.proofs.SetNumbers.{filter_mapped}
use Rattle.client_model.specs.Bodies.{Body, bodies_from, bodies_of, body_of, codes_of, end_of, initialiser}
use Rattle.client_model.specs.CheckedForm.{in_start}
use Rattle.client_model.specs.Codes.{static_code}
use Rattle.client_model.specs.Contexts.{Situated, These, has}
use Rattle.client_model.specs.Points.{set_at}
use Rattle.client_model.specs.SetNumbers.{AreNumbered}
use Rattle.client_model.specs.Settings.{Setting, Variable, setting_of, statics_from}
use Rattle.client_model.specs.Trees.{Client, Item, Initialiser, Procedure, statics_in}
use Rattle.client_model.specs.declared.tree.Static.{Static}
use Rattle.easl_model.specs.Form.{Form}
use Rattle.set_names.proofs.Numbers.{below}
use Rattle.set_names.specs.Sets.{sets_of}

-- the codes of so many statics
abbrev pub first_statics : ℕ → List ℕ
first_statics n = map static_code (range_with_len 0 n)

-- the codes of the first k of variables that are numbered as statics
pub codes_taken : (vs : List Variable) (a k : ℕ) → codes_of vs ≡ map static_code (range_with_len a (length vs)) → k ≤ length vs
    → codes_of (take k vs) ≡ map static_code (range_with_len a k)
codes_taken vs a zero is few = refl
codes_taken [] a (suc k) is few = absurd (omega arith)
codes_taken (v ∷ vs) a (suc k) is few =
    let first : v.code ≡ static_code a = cc in
    let rest : codes_of vs ≡ map static_code (range_with_len (a + 1) (length vs)) = cc in
    ap (λ c. c ∷ codes_of (take k vs)) first ∙ ap (λ cs. static_code a ∷ cs) (codes_taken vs (a + 1) k rest (omega (arith, few)))

-- the statics of a client
pub statics_numbered : (form : Form) (n : ℕ) (xs : List Static)
    → codes_of (statics_from form n xs) ≡ map static_code (range_with_len n (length (statics_from form n xs)))
statics_numbered form n [] = refl
statics_numbered form n (x ∷ xs) =
    let next : suc n ≡ n + 1 = omega arith in
    ap (λ ks. static_code n ∷ ks) (statics_numbered form (suc n) xs ∙ ap (λ k. map static_code (range_with_len k (length (statics_from form (suc n) xs)))) next)

-- as many as were written
pub as_many_statics : (form : Form) (n : ℕ) (xs : List Static) → length (statics_from form n xs) ≡ length xs
as_many_statics form n [] = refl
as_many_statics form n (x ∷ xs) = ap suc (as_many_statics form (suc n) xs)

-- the static of this number is among the first n

same_codes : (j k : ℕ) → (static_code j == static_code k) ≡ (j == k)
same_codes j k = by (eqb_tells j k)
  where
    by : (((j == k) ≡ true) × (j ≡ k)) ⊎ (((j == k) ≡ false) × (j ≢ k)) → (static_code j == static_code k) ≡ (j == k)
    by (inl same) = eq-eqb (static_code j) (static_code k) (ap static_code same.1) ∙ sym same.0
    by (inr other) = ne_eqb (static_code j) (static_code k) (λ same. other.1 (omega (arith, same))) ∙ sym other.0

among_codes : (k : ℕ) (js : List ℕ) → list_any (λ x. x == static_code k) (map static_code js) ≡ list_any (λ j. j == k) js
among_codes k [] = refl
among_codes k (j ∷ js) = λ i. same_codes j k i || among_codes k js i

is_first : (n k : ℕ) → has (These (first_statics n)) (static_code k) ≡ nat_lt k n
is_first n k = among_codes k (range_with_len 0 n) ∙ below n k

-- of the numbers from a on, those below b

none_below : (a b m : ℕ) → b ≤ a → filter (λ k. nat_lt k b) (range_with_len a m) ≡ []
none_below a b zero past = refl
none_below a b (suc m) past =
    ap (λ t. cond t (a ∷ filter (λ k. nat_lt k b) (range_with_len (a + 1) m)) (filter (λ k. nat_lt k b) (range_with_len (a + 1) m))) (le-ltb a b past)
    ∙ none_below (a + 1) b m (omega (arith, past))

first_numbers : (a b n m : ℕ) → a + n ≡ b → n ≤ m → filter (λ k. nat_lt k b) (range_with_len a m) ≡ range_with_len a n
first_numbers a b zero m is few = none_below a b m (omega (arith, is))
first_numbers a b (suc n) zero is few = absurd (omega (arith, few))
first_numbers a b (suc n) (suc m) is few =
    ap (λ t. cond t (a ∷ filter (λ k. nat_lt k b) (range_with_len (a + 1) m)) (filter (λ k. nat_lt k b) (range_with_len (a + 1) m))) (lt-ltb a b (omega (arith, is)))
    ∙ ap (λ ks. a ∷ ks) (first_numbers (a + 1) b n m (omega (arith, is)) (omega (arith, few)))

-- of m statics those are assigned that are among the first n
first_kept : (n m : ℕ) → n ≤ m → filter (has (These (first_statics n))) (first_statics m) ≡ first_statics n
first_kept n m few =
    filter_mapped (has (These (first_statics n))) static_code (range_with_len 0 m)
    ∙ ap (map static_code) (filter_agree (λ k. has (These (first_statics n)) (static_code k)) (λ k. nat_lt k n) (is_first n) (range_with_len 0 m)
    ∙ first_numbers 0 n n m (omega arith) few)

-- where so many statics are assigned and there is no variable
set_then : (s : Setting) (n : ℕ) → AreNumbered s → n ≤ length s.statics
    → filter (has (These (codes_of (take n s.statics)))) (codes_of s.statics ++ []) ≡ first_statics n
set_then s n numbered few =
    ap (filter (has (These (codes_of (take n s.statics))))) (append-nil (codes_of s.statics) ∙ numbered)
    ∙ ap (λ codes. filter (has (These codes)) (first_statics (length s.statics))) (codes_taken s.statics 0 n numbered few)
    ∙ first_kept n (length s.statics) few

-- the initialisers

abbrev pub initial_in : List Body → List Situated
initial_in bodies = flat_map (λ b. in_start b b.item) bodies

as_many_initial : (s : Setting) (n procedure call : ℕ) (items : List Item) → length (initial_in (bodies_from s n procedure call items)) ≡ length (statics_in items)
as_many_initial s n procedure call [] = refl
as_many_initial s n procedure call (Initialiser x ∷ rest) = ap suc (as_many_initial s (suc n) procedure (end_of (initialiser s n call x)).calls rest)
as_many_initial s n procedure call (Procedure p ∷ rest) = as_many_initial s n (suc procedure) (end_of (body_of s procedure call p)).calls rest

sets_from : (s : Setting) (n procedure call : ℕ) (items : List Item) → AreNumbered s → n + length (statics_in items) ≤ length s.statics
    → map set_at (initial_in (bodies_from s n procedure call items)) ≡ map first_statics (range_with_len n (length (statics_in items)))
sets_from s n procedure call [] numbered few = refl
sets_from s n procedure call (Initialiser x ∷ rest) numbered few =
    let next : suc n ≡ n + 1 = omega arith in
    let call_next : ℕ = (end_of (initialiser s n call x)).calls in
    ap (λ codes. codes ∷ map set_at (initial_in (bodies_from s (suc n) procedure call_next rest))) (set_then s n numbered (omega (arith, few)))
    ∙ ap (λ sets. first_statics n ∷ sets) (sets_from s (suc n) procedure call_next rest numbered (omega (arith, few))
    ∙ ap (λ k. map first_statics (range_with_len k (length (statics_in rest)))) next)
sets_from s n procedure call (Procedure p ∷ rest) numbered few = sets_from s n (suc procedure) (end_of (body_of s procedure call p)).calls rest numbered few

-- by spans: no variable is ever set

abbrev statics_then : ℕ → ℕ → List ℕ
statics_then k point = first_statics (min point k) ++ []

same_sets : (f g : ℕ → List ℕ) (a n : ℕ) → ((i : ℕ) → i < a + n → f i ≡ g i) → map f (range_with_len a n) ≡ map g (range_with_len a n)
same_sets f g a zero same = refl
same_sets f g a (suc n) same =
    ap (λ x. x ∷ map f (range_with_len (a + 1) n)) (same a (omega arith))
    ∙ ap (λ xs. g a ∷ xs) (same_sets f g (a + 1) n (λ i inside. same i (omega (arith, inside))))

before_all : (k point : ℕ) → point ≤ k → statics_then k point ≡ first_statics point
before_all k point before = append-nil (first_statics (min point k)) ∙ ap first_statics (min-eq_left before)

behind_all : (k point : ℕ) → k ≤ point → statics_then k point ≡ first_statics k
behind_all k point behind = append-nil (first_statics (min point k)) ∙ ap first_statics (min-eq_right behind)

by_spans : (k : ℕ) → sets_of true k (k + 1) [] ≡ map first_statics (range_with_len 0 k) ++ first_statics k ∷ first_statics k ∷ []
by_spans k =
    let more : suc (k + 1) ≡ k + 1 + 1 = omega arith in
    ap (λ n. map (statics_then k) (range_with_len 0 n)) more
    ∙ map-range_with_len_more (statics_then k) 0 (k + 1) (k + 1) (omega arith)
    ∙ ap (λ sets. sets ++ statics_then k (k + 1) ∷ []) (map-range_with_len_more (statics_then k) 0 k k (omega arith))
    ∙ append_assoc (map (statics_then k) (range_with_len 0 k)) (statics_then k k ∷ []) (statics_then k (k + 1) ∷ [])
    ∙ ap (λ sets. sets ++ statics_then k k ∷ statics_then k (k + 1) ∷ [])
    (same_sets (statics_then k) first_statics 0 k (λ point inside. before_all k point (omega (arith, inside))))
    ∙ ap (λ codes. map first_statics (range_with_len 0 k) ++ codes ∷ statics_then k (k + 1) ∷ []) (behind_all k k (omega arith))
    ∙ ap (λ codes. map first_statics (range_with_len 0 k) ++ first_statics k ∷ codes ∷ []) (behind_all k (k + 1) (omega arith))

-- the names that are set at each point of the start, at its call of `main` and at its exit
pub start_sets : (form : Form) (client : Client) (k : ℕ) → k ≡ length (initial_in (bodies_of form client))
    → sets_of true k (k + 1) []
    ≡ map set_at (initial_in (bodies_of form client)) ++ codes_of (setting_of form client).statics ∷ codes_of (setting_of form client).statics ∷ []
start_sets form client k is =
    let s : Setting = setting_of form client in
    let initial : length (initial_in (bodies_of form client)) ≡ length (statics_in client.items) = as_many_initial s 0 1 0 client.items in
    let statics : length s.statics ≡ length (statics_in client.items) = as_many_statics form 0 (statics_in client.items) in
    let numbered : AreNumbered s = statics_numbered form 0 (statics_in client.items) in
    let all : codes_of s.statics ≡ first_statics k = numbered ∙ ap first_statics (statics ∙ sym initial ∙ sym is) in
    let sets : map set_at (initial_in (bodies_of form client)) ≡ map first_statics (range_with_len 0 k) =
    sets_from s 0 1 0 client.items numbered (omega (arith, statics)) ∙ ap (λ n. map first_statics (range_with_len 0 n)) (sym initial ∙ sym is) in
    by_spans k ∙ sym (λ i. sets i ++ all i ∷ all i ∷ [])
