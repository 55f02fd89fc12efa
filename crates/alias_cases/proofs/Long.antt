-- Terms of clauses that have more than 6 fields.
use Rattle.std.proofs.Common.{◌≡◌, ℕ, zero, suc, ◌<◌, ◌≤◌, true, false, ◌&&◌, List, [], ◌∷◌, ◌++◌, length, Contains, slice_index_or, nat_le, arith, refl, subst, ⊎_elim}
use Rattle.std.proofs.lemmas.Bool.{and_cases, and_parts, leb-false, leb-true}
use Rattle.std.proofs.lemmas.List.Elements.{Contains-append_cases, Contains-append_left, Contains-append_right}
use Rattle.easl_model.specs.{Condition}
use Rattle.easl_model.specs.Conditions.{Conditions, Same, Differ, All, Any, none, ◌▸◌}
use Rattle.easl_model.specs.declared.form.Reach.{Reach}
use Rattle.access_paths.specs.declared.term.Term.{Term}
use Rattle.case_model.specs.{HasLongTerm, term_of, terms_of_condition, terms_of_conditions}
use Rattle.alias_cases.specs.{are_short, is_short}

abbrev AreShort : List Term → Type 0
AreShort ts = (t : Term) → Contains ts t → length t.fields ≤ 6

sides_short : (l r : Reach) → (nat_le (length l.fields) 6 && nat_le (length r.fields) 6) ≡ true → AreShort (term_of 3 l ∷ term_of 3 r ∷ [])
sides_short l r h t has =
    let p = and_parts (nat_le (length l.fields) 6) (nat_le (length r.fields) 6) h in
    by has.0 has.1 has.2 (leb-true (length l.fields) 6 p.0) (leb-true (length r.fields) 6 p.1)
  where
    by : (k : ℕ) → k < 2 → slice_index_or (term_of 3 l ∷ term_of 3 r ∷ []) k t ≡ t → length l.fields ≤ 6 → length r.fields ≤ 6 → length t.fields ≤ 6
    by zero h e a b = subst (λ (u : Term). length u.fields ≤ 6) e a
    by (suc zero) h e a b = subst (λ (u : Term). length u.fields ≤ 6) e b
    by (suc (suc k)) h e a b = absurd (omega arith)

long_left : (ts us : List Term) → HasLongTerm ts → HasLongTerm (ts ++ us)
long_left ts us long = let has = Contains-append_left ts us long.1 (long.0, long.2, long.3) in (has.0, long.1, has.1, has.2, long.4)

long_right : (ts us : List Term) → HasLongTerm us → HasLongTerm (ts ++ us)
long_right ts us long = let has = Contains-append_right ts us long.1 (long.0, long.2, long.3) in (has.0, long.1, has.1, has.2, long.4)

sides_long : (l r : Reach) → (nat_le (length l.fields) 6 && nat_le (length r.fields) 6) ≡ false → HasLongTerm (term_of 3 l ∷ term_of 3 r ∷ [])
sides_long l r h =
    ⊎_elim
    (λ (a : nat_le (length l.fields) 6 ≡ false). (0, term_of 3 l, omega arith, refl, leb-false (length l.fields) 6 a))
    (λ (b : nat_le (length r.fields) 6 ≡ false). (1, term_of 3 r, omega arith, refl, leb-false (length r.fields) 6 b))
    (and_cases (nat_le (length l.fields) 6) (nat_le (length r.fields) 6) h)

mutual
  short : (c : Condition) → is_short c ≡ true → AreShort (terms_of_condition 3 c)
  short (Same l r) h = sides_short l r h
  short (Differ l r) h = sides_short l r h
  short (All cs) h = all_short cs h
  short (Any cs) h = all_short cs h

  all_short : (cs : Conditions) → are_short cs ≡ true → AreShort (terms_of_conditions 3 cs)
  all_short none h = λ t has. absurd (omega (arith, has.1))
  all_short (c ▸ cs) h = λ t has.
      let p = and_parts (is_short c) (are_short cs) h in
      ⊎_elim
      (λ (a : Contains (terms_of_condition 3 c) t). short c p.0 t a)
      (λ (b : Contains (terms_of_conditions 3 cs) t). all_short cs p.1 t b)
      (Contains-append_cases (terms_of_condition 3 c) (terms_of_conditions 3 cs) t has)

mutual
  long : (c : Condition) → is_short c ≡ false → HasLongTerm (terms_of_condition 3 c)
  long (Same l r) h = sides_long l r h
  long (Differ l r) h = sides_long l r h
  long (All cs) h = some_long cs h
  long (Any cs) h = some_long cs h

  pub some_long : (cs : Conditions) → are_short cs ≡ false → HasLongTerm (terms_of_conditions 3 cs)
  some_long none h = absurd (cc)
  some_long (c ▸ cs) h =
      ⊎_elim
      (λ (a : is_short c ≡ false). long_left (terms_of_condition 3 c) (terms_of_conditions 3 cs) (long c a))
      (λ (b : are_short cs ≡ false). long_right (terms_of_condition 3 c) (terms_of_conditions 3 cs) (some_long cs b))
      (and_cases (is_short c) (are_short cs) h)

pub none_long : (cs : Conditions) → are_short cs ≡ true → HasLongTerm (terms_of_conditions 3 cs) → ⊥
none_long cs h found = let few = all_short cs h found.1 (found.0, found.2, found.3) in omega (arith, few, found.4)
