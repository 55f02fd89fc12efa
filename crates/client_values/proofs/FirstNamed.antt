-- What the first position of a name says of the list whose names these are.
use Rattle.std.proofs.Common.{◌≡◌, ℕ, suc, ◌+◌, Bool, true, false, ◌||◌, List, [], ◌∷◌, ap, map, refl, sym, take, ◌∙◌, arith}
use Rattle.std.proofs.lemmas.List.{take-map}
use Rattle.std.specs.List.{list_any, position_from}
use Rattle.std.specs.Prelude.{Option, Some, None, cond, find, is_some, option_and_then, option_map, slice_get}
use Rattle.client_model.specs.Lookups.{is_same}
use Rattle.client_model.specs.Settings.{Header, Variable, procedure_from}
use Rattle.client_values.specs.Calling.{callee_by_header}
use Rattle.name_table.proofs.Looking.{is_among}
use Rattle.name_table.specs.Firsts.{position_of}

-- counted from one later
one_later : {A : Type 0} (p : A → Bool) (k : ℕ) (xs : List A) → position_from p (k + 1) xs ≡ option_map (λ n. n + 1) (position_from p k xs)
one_later p k [] = refl
one_later p k (x ∷ xs) = by (p x) (one_later p (k + 1) xs)
  where
    by : (b : Bool) → position_from p (k + 1 + 1) xs ≡ option_map (λ n. n + 1) (position_from p (k + 1) xs)
        → cond b (Some (k + 1)) (position_from p (k + 1 + 1) xs) ≡ option_map (λ n. n + 1) (cond b (Some k) (position_from p (k + 1) xs))
    by true later = refl
    by false later = later

-- what stands at a position, with one more in front
behind_one : {A B : Type 0} (at : ℕ → A → B) (x : A) (xs : List A) (found : Option ℕ)
    → option_and_then (λ n. option_map (at (n + 1)) (slice_get xs n)) found ≡ option_and_then (λ n. option_map (at n) (slice_get (x ∷ xs) n)) (option_map (λ n. n + 1) found)
behind_one at x xs None = refl
behind_one at x xs (Some n) =
    let next : suc n ≡ n + 1 = omega arith in ap (λ k. option_map (at (n + 1)) (slice_get (x ∷ xs) k)) next

same_item : {A : Type 0} (found : Option A) → option_map (λ x. x) found ≡ found
same_item None = refl
same_item (Some x) = refl

-- what is found by a name stands where the name stands first
found_at : {A : Type 0} (name_of : A → List ℕ) (name : List ℕ) (xs : List A)
    → find (λ x. is_same (name_of x) name) xs ≡ option_and_then (λ n. option_map (λ x. x) (slice_get xs n)) (position_of name (map name_of xs))
found_at name_of name [] = refl
found_at name_of name (x ∷ xs) = by (is_same (name_of x) name) (found_at name_of name xs)
  where
    by : (b : Bool) → find (λ x. is_same (name_of x) name) xs ≡ option_and_then (λ n. option_map (λ x. x) (slice_get xs n)) (position_of name (map name_of xs))
        → cond b (Some x) (find (λ x. is_same (name_of x) name) xs)
        ≡ option_and_then (λ n. option_map (λ x. x) (slice_get (x ∷ xs) n)) (cond b (Some 0) (position_from (λ n. is_same n name) (0 + 1) (map name_of xs)))
    by true later = refl
    by false later =
        later ∙ behind_one (λ n x. x) x xs (position_of name (map name_of xs))
        ∙ ap (option_and_then (λ n. option_map (λ x. x) (slice_get (x ∷ xs) n))) (sym (one_later (λ n. is_same n name) 0 (map name_of xs)))

-- the same of procedures, which are numbered from a number on
procedure_at : (name : List ℕ) (k : ℕ) (hs : List Header)
    → procedure_from k hs name ≡ option_and_then (λ n. option_map (callee_by_header (n + k)) (slice_get hs n)) (position_of name (map (λ h. h.name) hs))
procedure_at name k [] = refl
procedure_at name k (h ∷ hs) = by (is_same h.name name) (procedure_at name (suc k) hs)
  where
    further : (found : Option ℕ) → option_and_then (λ n. option_map (callee_by_header (n + suc k)) (slice_get hs n)) found
        ≡ option_and_then (λ n. option_map (callee_by_header (n + 1 + k)) (slice_get hs n)) found
    further None = refl
    further (Some n) = let same : n + suc k ≡ n + 1 + k = omega arith in ap (λ m. option_map (callee_by_header m) (slice_get hs n)) same

    by : (b : Bool) → procedure_from (suc k) hs name ≡ option_and_then (λ n. option_map (callee_by_header (n + suc k)) (slice_get hs n)) (position_of name (map (λ (x : Header). x.name) hs))
        → cond b (Some (callee_by_header k h)) (procedure_from (suc k) hs name)
        ≡ option_and_then (λ n. option_map (callee_by_header (n + k)) (slice_get (h ∷ hs) n)) (cond b (Some 0) (position_from (λ n. is_same n name) (0 + 1) (map (λ (x : Header). x.name) hs)))
    by true later = let first : k ≡ 0 + k = omega arith in ap (λ m. Some (callee_by_header m h)) first
    by false later =
        later ∙ further (position_of name (map (λ (x : Header). x.name) hs)) ∙ behind_one (λ n. callee_by_header (n + k)) h hs (position_of name (map (λ (x : Header). x.name) hs))
        ∙ ap (option_and_then (λ n. option_map (callee_by_header (n + k)) (slice_get (h ∷ hs) n))) (sym (one_later (λ n. is_same n name) 0 (map (λ (x : Header). x.name) hs)))

any_map : {A B : Type 0} (f : A → B) (p : B → Bool) (xs : List A) → list_any p (map f xs) ≡ list_any (λ x. p (f x)) xs
any_map f p [] = refl
any_map f p (x ∷ xs) = ap (λ b. p (f x) || b) (any_map f p xs)

-- variables by the first position of a name among theirs
pub variable_at : (name : List ℕ) (vs : List Variable) (names : List (List ℕ)) (found : Option ℕ) → names ≡ map (λ v. v.name) vs → found ≡ position_of name names
    → find (λ v. is_same v.name name) vs ≡ option_and_then (slice_get vs) found
variable_at name vs names found of is =
    found_at (λ (v : Variable). v.name) name vs ∙ plain (position_of name (map (λ (v : Variable). v.name) vs))
    ∙ ap (option_and_then (slice_get vs)) (sym (is ∙ ap (position_of name) of))
  where
    plain : (n : Option ℕ) → option_and_then (λ n. option_map (λ x. x) (slice_get vs n)) n ≡ option_and_then (slice_get vs) n
    plain None = refl
    plain (Some n) = same_item (slice_get vs n)

pub some_variable : (name : List ℕ) (vs : List Variable) (names : List (List ℕ)) (found : Option ℕ) → names ≡ map (λ v. v.name) vs → found ≡ position_of name names
    → is_some found ≡ list_any (λ v. is_same v.name name) vs
some_variable name vs names found of is =
    ap is_some is ∙ is_among name names ∙ ap (list_any (λ n. is_same n name)) of ∙ any_map (λ (v : Variable). v.name) (λ n. is_same n name) vs

-- headers likewise
pub header_at : (name : List ℕ) (hs : List Header) (names : List (List ℕ)) (found : Option ℕ) → names ≡ map (λ h. h.name) hs → found ≡ position_of name names
    → procedure_from 1 hs name ≡ option_and_then (λ n. option_map (callee_by_header (n + 1)) (slice_get hs n)) found
header_at name hs names found of is =
    procedure_at name 1 hs ∙ ap (option_and_then (λ n. option_map (callee_by_header (n + 1)) (slice_get hs n))) (sym (is ∙ ap (position_of name) of))

pub some_header : (name : List ℕ) (hs : List Header) (names : List (List ℕ)) (found : Option ℕ) → names ≡ map (λ h. h.name) hs → found ≡ position_of name names
    → is_some found ≡ list_any (λ h. is_same h.name name) hs
some_header name hs names found of is =
    ap is_some is ∙ is_among name names ∙ ap (list_any (λ n. is_same n name)) of ∙ any_map (λ (h : Header). h.name) (λ n. is_same n name) hs

-- fewer of both
pub names_kept : {A : Type 0} (name_of : A → List ℕ) (old new : List A) (before left : List (List ℕ)) (kept : ℕ)
    → before ≡ map name_of old → new ≡ take kept old → left ≡ take kept before → left ≡ map name_of new
names_kept name_of old new before left kept of items cut = cut ∙ ap (take kept) of ∙ take-map name_of kept old ∙ ap (map name_of) (sym items)
