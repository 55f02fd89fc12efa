-- Lists that grow by what is new.
use Rattle.std.proofs.Common.{◌≡◌, ◌≢◌, ℕ, zero, suc, ◌+◌, ◌<◌, ◌≤◌, Bool, true, false, cond, ◌⊎◌, inl, inr, ⊎_elim, List, [], ◌∷◌, ◌++◌, length, take, get_or, Contains, All, AllPairs, refl, sym, ap, subst, ◌∙◌, true≢false, arith, length-append, append-nil, append_assoc}
use Rattle.std.specs.List.{list_any}
use Rattle.std.proofs.lemmas.List.{take-append-le, get_or_default}
use Rattle.std.proofs.lemmas.List.Elements.{All-nil, All-cons, All-weaker, Contains-append_left, Contains-append_right, Contains-append_cases, Contains-get_or}
use Rattle.std.proofs.lemmas.List.Folds.{list_any_at}
use Rattle.std.proofs.lemmas.List.Quantifiers.{all_pairs_push}
use Rattle.indexmap.proofs.CallerLemmas.{Contains-insert_key}
use Rattle.indexmap.specs.IndexSet.{insert_key, insert_all}

-- a list that is one longer than what is left of it
pub length-rest : {T : Type 0} (xs rest : List T) (x : T) (m n : ℕ) → xs ≡ x ∷ rest → n + 1 ≡ m → length xs ≡ m → length rest ≡ n
length-rest xs rest x m n next one is = omega (arith, ap length next)

module _ {T : Type 0} (eq : T → T → Bool) where
  pub length-insert_key : (ks : List T) (x : T) → length ks ≤ length (insert_key eq ks x)
  length-insert_key ks x = by (list_any (eq x) ks)
    where
      by : (b : Bool) → length ks ≤ length (cond b ks (ks ++ x ∷ []))
      by true = omega arith
      by false = omega (arith, length-append ks (x ∷ []))

  pub length-insert_all : (ks xs : List T) → length ks ≤ length (insert_all eq ks xs)
  length-insert_all ks [] = omega arith
  length-insert_all ks (x ∷ xs) = omega (arith, length-insert_key ks x, length-insert_all (insert_key eq ks x) xs)

  pub length-added : (ks new : List T) (x : T) → new ≡ insert_key eq ks x → length ks ≤ length new
  length-added ks new x added = omega (arith, ap length added, length-insert_key ks x)

  -- Of the items xs, x is put in, and the rest is left.
  pub insert_all-next : (ks new xs rest all : List T) (x : T) → new ≡ insert_key eq ks x → xs ≡ x ∷ rest → insert_all eq ks xs ≡ all → insert_all eq new rest ≡ all
  insert_all-next ks new xs rest all x added next is = ap (λ l. insert_all eq l rest) added ∙ ap (insert_all eq ks) (sym next) ∙ is

  -- where one item more is too much, so are all of them
  pub lt-insert_all : (limit : ℕ) (ks xs rest all : List T) (x : T) → xs ≡ x ∷ rest → insert_all eq ks xs ≡ all → limit < length (insert_key eq ks x) → limit < length all
  lt-insert_all limit ks xs rest all x next is over = omega (arith, ap length (insert_all-next ks (insert_key eq ks x) xs rest all x refl next is), length-insert_all (insert_key eq ks x) rest)

-- These items are put in behind ks: they are among xs, and none of them is in ks.
pub record News {T : Type 0} (eq : T → T → Bool) (ks xs : List T) : Type 0 where
  pub more : List T
  pub whole : insert_all eq ks xs ≡ ks ++ more
  pub given : All (Contains xs) more
  pub new : All (λ x. ¬ Contains ks x) more

-- Each item is equal to itself.
module _ {T : Type 0} (eq : T → T → Bool) (same : (x : T) → eq x x ≡ true) where
  pub absent : (ks : List T) (x : T) → list_any (eq x) ks ≡ false → ¬ Contains ks x
  absent ks x none has = true≢false (sym (list_any_at (eq x) ks has.0 x has.1 (ap (eq x) has.2 ∙ same x)) ∙ none)

  pub news : (ks xs : List T) → News eq ks xs
  news ks [] = record { more = []; whole = sym (append-nil ks); given = All-nil (Contains []); new = All-nil (λ x. ¬ Contains ks x) }
  news ks (x ∷ xs) = by (list_any (eq x) ks) refl (news (insert_key eq ks x) xs)
    where
      later : (y : T) → Contains xs y → Contains (x ∷ xs) y
      later y has = Contains-append_right (x ∷ []) xs y has

      by : (b : Bool) → list_any (eq x) ks ≡ b → News eq (insert_key eq ks x) xs → News eq ks (x ∷ xs)
      by true is rest =
          let kept : insert_key eq ks x ≡ ks = ap (λ b. cond b ks (ks ++ x ∷ [])) is in
          record {
            more = rest.more;
            whole = rest.whole ∙ ap (λ l. l ++ rest.more) kept;
            given = All-weaker (Contains xs) (Contains (x ∷ xs)) later rest.more rest.given;
            new = subst (λ l. All (λ y. ¬ Contains l y) rest.more) kept rest.new;
          }
      by false is rest =
          let pushed : insert_key eq ks x ≡ ks ++ x ∷ [] = ap (λ b. cond b ks (ks ++ x ∷ [])) is in
          let apart : All (λ y. ¬ Contains (ks ++ x ∷ []) y) rest.more = subst (λ l. All (λ y. ¬ Contains l y) rest.more) pushed rest.new in
          record {
            more = x ∷ rest.more;
            whole = rest.whole ∙ ap (λ l. l ++ rest.more) pushed ∙ append_assoc ks (x ∷ []) rest.more;
            given = All-cons (Contains (x ∷ xs)) x rest.more (Contains-get_or (x ∷ xs) 0 x (omega arith)) (All-weaker (Contains xs) (Contains (x ∷ xs)) later rest.more rest.given);
            new = All-cons (λ y. ¬ Contains ks y) x rest.more (absent ks x is) (All-weaker (λ y. ¬ Contains (ks ++ x ∷ []) y) (λ y. ¬ Contains ks y) (λ y no has. no (Contains-append_left ks (x ∷ []) y has)) rest.more apart);
          }

  -- what was there stays in front
  pub take-insert_all : (ks xs : List T) (n : ℕ) → n ≤ length ks → take n (insert_all eq ks xs) ≡ take n ks
  take-insert_all ks xs n h = let w = news ks xs in ap (take n) w.whole ∙ take-append-le n ks w.more h

  pub kept-insert_all : (ks xs : List T) (x : T) → Contains ks x → Contains (insert_all eq ks xs) x
  kept-insert_all ks xs x has = let w = news ks xs in subst (λ l. Contains l x) (sym w.whole) (Contains-append_left ks w.more x has)

  -- no item stands twice
  pub once-insert_all : (ks xs : List T) → AllPairs (λ x y. x ≢ y) ks → AllPairs (λ x y. x ≢ y) (insert_all eq ks xs)
  once-insert_all ks [] once = once
  once-insert_all ks (x ∷ xs) once = once-insert_all (insert_key eq ks x) xs (by (list_any (eq x) ks) refl)
    where
      by : (b : Bool) → list_any (eq x) ks ≡ b → AllPairs (λ y z. y ≢ z) (cond b ks (ks ++ x ∷ []))
      by true is = once
      by false is = all_pairs_push (λ y z. y ≢ z) ks x once (λ k d h e. absent ks x is (k, h, get_or_default ks k x d h ∙ e))

-- Items that are equal are one.
module _ {T : Type 0} (eq : T → T → Bool) (same : (x : T) → eq x x ≡ true) (exact : (x y : T) → eq x y ≡ true → x ≡ y) where
  pub Contains-insert_all : (ks xs : List T) (x : T) → Contains xs x → Contains (insert_all eq ks xs) x
  Contains-insert_all ks [] x has = absurd (omega (arith, has.1))
  Contains-insert_all ks (y ∷ ys) x has =
      ⊎_elim
      (λ first. kept-insert_all eq same (insert_key eq ks y) ys x (subst (Contains (insert_key eq ks y)) (only first) (Contains-insert_key eq exact ks y)))
      (λ later. Contains-insert_all (insert_key eq ks y) ys x later)
      (Contains-append_cases (y ∷ []) ys x has)
    where
      only : Contains (y ∷ []) x → y ≡ x
      only at = at_zero at.0 at.1 at.2
        where
          at_zero : (k : ℕ) → k < 1 → get_or (y ∷ []) k x ≡ x → y ≡ x
          at_zero zero h is = is
          at_zero (suc k) h is = absurd (omega arith)

  -- what is in is there from the start or was put in
  pub cases-insert_all : (ks xs : List T) (x : T) → Contains (insert_all eq ks xs) x → Contains ks x ⊎ Contains xs x
  cases-insert_all ks xs x has =
      let w = news eq same ks xs in
      ⊎_elim (λ a. inl a) (λ b. inr (found w.more w.given b)) (Contains-append_cases ks w.more x (subst (λ l. Contains l x) w.whole has))
    where
      found : (more : List T) → All (Contains xs) more → Contains more x → Contains xs x
      found more all at = subst (Contains xs) at.2 (all at.0 x at.1)
