-- The cubes that the search goes through: in order, and each cube has one of its beginnings among them.
use Rattle.std.proofs.Common.{◌≡◌, ℕ, zero, suc, ◌<◌, ◌≤◌, Bool, true, false, cond, List, [], ◌∷◌, ◌++◌, length, get_or, drop, refl, ap, sym, subst, ◌∙◌, inl, inr, ⊎_elim, arith, append_assoc, append-nil, eq-or-lt_of_le}
use Rattle.std.specs.Prelude.{◌⊎◌}
use Rattle.cube_search.specs.Rows.{both, meets}
use Rattle.cube_search.specs.Cubes.{IsTail, IsBefore, row_of}
use Rattle.cube_search.specs.Search.{candidate, longer, visited}
use Rattle.cube_search.specs.declared.searching.Candidate.{Candidate}
use Rattle.cube_search.specs.Lists.{Each, IsIn, Rises}
use Rattle.cube_search.proofs.Lists.{each-from, in-left, in-right, in-cases, rises-append}

pub tail-weaker : (low from n : ℕ) (t : List ℕ) → low ≤ from → IsTail from n t → IsTail low n t
tail-weaker low from n [] h is = tt
tail-weaker low from n (x ∷ t) h is = (omega (arith, is.0), is.1, is.2)

pub before-common : (c xs ys : List ℕ) → IsBefore xs ys → IsBefore (c ++ xs) (c ++ ys)
before-common [] xs ys h = h
before-common (z ∷ c) xs ys h = inr (refl, before-common c xs ys h)

-- the first of what is left of a list
uncons : (xs : List (List ℕ)) (from : ℕ) (r : List ℕ) (rest : List (List ℕ)) → drop from xs ≡ r ∷ rest
    → (get_or xs from [] ≡ r) × (drop (suc from) xs ≡ rest) × (from < length xs)
uncons [] zero r rest e = absurd (cc)
uncons [] (suc from) r rest e = absurd (cc)
uncons (x ∷ xs) zero r rest e = (let a : x ≡ r = cc in a, let b : xs ≡ rest = cc in b, omega arith)
uncons (x ∷ xs) (suc from) r rest e = let u = uncons xs from r rest e in (u.0, u.1, omega (arith, u.2))

nothing_left : (xs : List (List ℕ)) (from : ℕ) → drop from xs ≡ [] → length xs ≤ from
nothing_left [] from e = omega arith
nothing_left (x ∷ xs) zero e = absurd (cc)
nothing_left (x ∷ xs) (suc from) e = omega (arith, nothing_left xs from e)

module _ (rows : List (List ℕ)) where
  pub row_of-append : (row p more : List ℕ) → row_of rows row (p ++ more) ≡ row_of rows (row_of rows row p) more
  row_of-append row [] more = refl
  row_of-append row (l ∷ p) more = row_of-append (both row (get_or rows l [])) p more

  -- a cube with so many literals more, from this one on
  pub record Comes (from left : ℕ) (row cube : List ℕ) (v : Candidate) : Type 0 where
    pub more : List ℕ
    pub is : v ≡ candidate (row_of rows row more) (cube ++ more)
    pub size : length more ≡ left
    pub tail : IsTail from (length rows) more

  abbrev Deeper : Type 0
  Deeper = ℕ → List (List ℕ) → List ℕ → List ℕ → List Candidate

  abbrev AllCome : Deeper → ℕ → Type 0
  AllCome deeper left = (from : ℕ) (rest : List (List ℕ)) (row cube : List ℕ) → drop from rows ≡ rest → (v : Candidate) → IsIn v
      (deeper from rest row cube) → Comes from left row cube v

  longer_comes : (deeper : Deeper) (left : ℕ) → AllCome deeper left → AllCome (longer deeper) (suc left)
  longer_comes deeper left all from [] row cube e v has = absurd has
  longer_comes deeper left all from (r ∷ rest) row cube e v has =
      let u = uncons rows from r rest e in
      ⊎_elim
      (λ (i : IsIn v (deeper (suc from) rest (both row r) (cube ++ from ∷ []))).
      let c = all (suc from) rest (both row r) (cube ++ from ∷ []) u.1 v i in
      record {
        more = from ∷ c.more;
        is = c.is ∙ (λ j. candidate (row_of rows (both row (sym u.0 j)) c.more) (append_assoc cube (from ∷ []) c.more j));
        size = ap suc c.size;
        tail = (omega arith, u.2, c.tail);
      })
      (λ (i : IsIn v (longer deeper (suc from) rest row cube)).
      let c = longer_comes deeper left all (suc from) rest row cube u.1 v i in
      record { more = c.more; is = c.is; size = c.size; tail = tail-weaker from (suc from) (length rows) c.more (omega arith) c.tail })
      (in-cases (deeper (suc from) rest (both row r) (cube ++ from ∷ [])) (longer deeper (suc from) rest row cube) v has)

  module _ (never : List ℕ) where
    pub comes : (left : ℕ) → AllCome (visited never left) left
    comes zero from rest row cube e v has =
        ⊎_elim
        (λ (s : candidate row cube ≡ v). record { more = []; is = sym s ∙ ap (candidate row) (sym (append-nil cube)); size = refl; tail = tt })
        (λ (n : ⊥). absurd n)
        has
    comes (suc left) from rest row cube e v has = by (comes left) (meets row never) has
      where
        by : AllCome (visited never left) left → (b : Bool) → IsIn v (cond b (longer (visited never left) from rest row cube) [])
            → Comes from (suc left) row cube v
        by before true i = longer_comes (visited never left) left before from rest row cube e v i
        by before false i = absurd i

    abbrev Lexes : Candidate → Candidate → Type 0
    Lexes v w = IsBefore v.cube w.cube

    longer_rises : (left : ℕ)
        → ((from : ℕ) (rest : List (List ℕ)) (row cube : List ℕ) → drop from rows ≡ rest → Rises Lexes (visited never left from rest row cube))
        → (from : ℕ) (rest : List (List ℕ)) (row cube : List ℕ) → drop from rows ≡ rest → Rises Lexes (longer (visited never left) from rest row cube)
    longer_rises left up from [] row cube e = tt
    longer_rises left up from (r ∷ rest) row cube e =
        let u = uncons rows from r rest e in
        let first = visited never left (suc from) rest (both row r) (cube ++ from ∷ []) in
        let later = longer (visited never left) (suc from) rest row cube in
        rises-append Lexes first later (up (suc from) rest (both row r) (cube ++ from ∷ []) u.1) (longer_rises left up (suc from) rest row cube u.1)
        (each-from (λ w. Each (λ v. Lexes v w) first) later
        (λ w iw. each-from (λ v. Lexes v w) first
        (λ v iv. apart (comes left (suc from) rest (both row r) (cube ++ from ∷ []) u.1 v iv)
        (longer_comes (visited never left) left (comes left) (suc from) rest row cube u.1 w iw))))
      where
        -- the first has the literal `from` next, the second a later one
        lex : (xs ys : List ℕ) → length ys ≡ suc left → IsTail (suc from) (length rows) ys → IsBefore (from ∷ xs) ys
        lex xs [] size tail = absurd (omega (arith, size))
        lex xs (y ∷ ys) size tail = inl (omega (arith, tail.0))

        apart : {v w : Candidate} → Comes (suc from) left (both row r) (cube ++ from ∷ []) v → Comes (suc from) (suc left) row cube w → Lexes v w
        apart {v} {w} a b =
            let v_is : v.cube ≡ cube ++ from ∷ a.more = ap (λ c. c.cube) a.is ∙ append_assoc cube (from ∷ []) a.more in
            let w_is : w.cube ≡ cube ++ b.more = ap (λ c. c.cube) b.is in
            rw (v_is, w_is) (before-common cube (from ∷ a.more) b.more (lex a.more b.more b.size b.tail))

    pub rises : (left from : ℕ) (rest : List (List ℕ)) (row cube : List ℕ) → drop from rows ≡ rest → Rises Lexes (visited never left from rest row cube)
    rises zero from rest row cube e = (tt, tt)
    rises (suc left) from rest row cube e = by (longer_rises left (rises left) from rest row cube e) (meets row never)
      where
        by : Rises Lexes (longer (visited never left) from rest row cube) → (b : Bool)
            → Rises Lexes (cond b (longer (visited never left) from rest row cube) [])
        by up true = up
        by up false = tt

    -- what goes on with a literal is gone through
    goes_on : (deeper : Deeper) (x from : ℕ) (rest : List (List ℕ)) (row cube : List ℕ) (v : Candidate) → drop from rows ≡ rest → from ≤ x → x < length rows
        → IsIn v (deeper (suc x) (drop (suc x) rows) (both row (get_or rows x [])) (cube ++ x ∷ [])) → IsIn v (longer deeper from rest row cube)
    goes_on deeper x from [] row cube v e low high has = absurd (omega (arith, nothing_left rows from e))
    goes_on deeper x from (r ∷ rest) row cube v e low high has =
        let u = uncons rows from r rest e in
        ⊎_elim
        (λ (s : from ≡ x).
        in-left (deeper (suc from) rest (both row r) (cube ++ from ∷ [])) (longer deeper (suc from) rest row cube) v
        (let here = subst (λ z. IsIn v (deeper (suc z) (drop (suc z) rows) (both row (get_or rows z [])) (cube ++ z ∷ []))) (sym s) has in
        subst (λ l. IsIn v (deeper (suc from) l (both row r) (cube ++ from ∷ []))) u.1
        (subst (λ z. IsIn v (deeper (suc from) (drop (suc from) rows) (both row z) (cube ++ from ∷ []))) u.0 here)))
        (λ (l : from < x).
        in-right (deeper (suc from) rest (both row r) (cube ++ from ∷ [])) (longer deeper (suc from) rest row cube) v
        (goes_on deeper x (suc from) rest row cube v u.1 l high has))
        (eq-or-lt_of_le low)

    -- A cube is gone through, or one of its beginnings is that is never true where the tree is false.
    pub record Found (from : ℕ) (rest : List (List ℕ)) (row cube t : List ℕ) : Type 0 where
      pub begin : List ℕ
      pub more : List ℕ
      pub is : t ≡ begin ++ more
      pub there : IsIn (candidate (row_of rows row begin) (cube ++ begin)) (visited never (length begin) from rest row cube)
      pub whole : (more ≡ []) ⊎ (meets (row_of rows row begin) never ≡ false)

    pub found : (t : List ℕ) (from : ℕ) (rest : List (List ℕ)) (row cube : List ℕ) → drop from rows ≡ rest → IsTail from (length rows) t
        → Found from rest row cube t
    found [] from rest row cube e tail = record { begin = []; more = []; is = refl; there = inl (ap (candidate row) (sym (append-nil cube))); whole = inl refl }
    found (x ∷ t) from rest row cube e tail = by (found t (suc x) (drop (suc x) rows) (both row (get_or rows x [])) (cube ++ x ∷ []) refl tail.2)
        (meets row never) refl
      where
        by : Found (suc x) (drop (suc x) rows) (both row (get_or rows x [])) (cube ++ x ∷ []) t → (b : Bool) → meets row never ≡ b
            → Found from rest row cube (x ∷ t)
        by f true m =
            record {
              begin = x ∷ f.begin;
              more = f.more;
              is = ap (λ l. x ∷ l) f.is;
              there =
                  let i = goes_on (visited never (length f.begin)) x from rest row cube
                  (candidate (row_of rows (both row (get_or rows x [])) f.begin) ((cube ++ x ∷ []) ++ f.begin)) e tail.0 tail.1 f.there in
                  let j = subst (λ c. IsIn (candidate (row_of rows (both row (get_or rows x [])) f.begin) c)
                  (longer (visited never (length f.begin)) from rest row cube)) (append_assoc cube (x ∷ []) f.begin) i in
                  subst (λ b. IsIn (candidate (row_of rows (both row (get_or rows x [])) f.begin) (cube ++ x ∷ f.begin))
                  (cond b (longer (visited never (length f.begin)) from rest row cube) [])) (sym m) j;
              whole = f.whole;
            }
        by f false m = record { begin = []; more = x ∷ t; is = refl; there = inl (ap (candidate row) (sym (append-nil cube))); whole = inr m }
