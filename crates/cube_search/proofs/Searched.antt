-- The search keeps the widest of all cubes.
use Rattle.std.proofs.Common.{◌≡◌, ℕ, zero, suc, ◌<◌, ◌≤◌, Bool, true, false, not, cond, ◌&&◌, ◌||◌, List, [], ◌∷◌, ◌++◌, length, get_or, drop, refl, ap, sym, subst, ◌∙◌, inl, inr, ⊎_elim, arith, append-nil, length-append, le-leb, leb-true, eq-or-lt_of_le}
use Rattle.std.specs.List.{list_any}
use Rattle.std.proofs.lemmas.Bool.{and_parts, and_from, not_from_false, false_from_ne_true}
use Rattle.std.proofs.lemmas.List.Folds.{list_any-append}
use Rattle.cube_search.specs.Rows.{both, is_some, meets}
use Rattle.cube_search.specs.Cubes.{IsTail, IsBefore, row_of, covers, Before, IsCube, Counts}
use Rattle.cube_search.specs.Search.{candidate, is_mentioned, how_many, is_few, takes, offered, kept_of, visited, all_visited, considered}
use Rattle.cube_search.specs.declared.searching.Candidate.{Candidate}
use Rattle.cube_search.specs.declared.searching.Task.{Task}
use Rattle.cube_search.proofs.Kept.{IsPreorder, IsAtMost, IsGood, keep, good_from_none}
use Rattle.cube_search.specs.Lists.{Each, IsIn, Rises}
use Rattle.cube_search.proofs.Lists.{each-in, each-from, in-left, in-right, in-cases, rises-append}
use Rattle.cube_search.proofs.RowLaws.{Within, within_from, within_to, within-itself, within-along, both_within, some_wider}
use Rattle.cube_search.proofs.Visited.{Comes, row_of-append, comes, rises, found, Found}
use Rattle.cube_search.proofs.WidestOnes.{AreWidest}

pub covers_order : IsPreorder covers
covers_order = record {
  itself = λ c. within_to c.row c.row (within-itself c.row);
  along = λ c d e a b. within_to c.row e.row (within-along c.row d.row e.row (within_from c.row d.row a) (within_from d.row e.row b));
}

-- fewer literals have no more variables
fewer : (vs : List (ℕ × ℕ)) (p more : List ℕ) (n : ℕ) → how_many vs p n ≤ how_many vs (p ++ more) n
fewer vs p more zero = omega arith
fewer vs p more (suc n) =
    let one = list_any-append (is_mentioned vs n) p more in
    omega (
      arith,
      fewer vs p more n,
      subst (λ b. cond (list_any (is_mentioned vs n) p) 1 0 ≤ cond b 1 0) (sym one)
          (by (list_any (is_mentioned vs n) p) (list_any (is_mentioned vs n) more)),
    )
  where
    by : (b c : Bool) → cond b 1 0 ≤ cond (b || c) 1 0
    by true c = omega arith
    by false c = omega arith

pub few_fewer : (vs : List (ℕ × ℕ)) (p more : List ℕ) → is_few vs (p ++ more) ≡ true → is_few vs p ≡ true
unfolding is_few
few_fewer vs p more h =
    le-leb (how_many vs p 8) 3 (omega (arith, leb-true (how_many vs (p ++ more) 8) 3 h, fewer vs p more 8))

clash : (b : Bool) → b ≡ false → b ≡ true → ⊥
clash true e f = absurd (cc)
clash false e f = absurd (cc)

-- where none is an implicant nothing changes
kept_none : (task : Task) (vs kept : List Candidate) → ((v : Candidate) → IsIn v vs → takes task v ≡ false) → kept_of task vs kept ≡ kept
kept_none task [] kept unfit = refl
kept_none task (v ∷ vs) kept unfit =
    ap (λ b. kept_of task vs (cond b (offered v kept) kept)) (unfit v (inl refl)) ∙ kept_none task vs kept (λ w i. unfit w (inr i))

-- a cube with many variables is no implicant, and no longer one is
pub many : (task : Task) (left from : ℕ) (row cube : List ℕ) (kept : List Candidate) → is_few task.variables.items cube ≡ false
    → kept_of task (visited task.never left from (drop from task.rows.items) row cube) kept ≡ kept
many task left from row cube kept few =
    kept_none task (visited task.never left from (drop from task.rows.items) row cube) kept
    (λ v i. unfit v (comes task.rows.items task.never left from (drop from task.rows.items) row cube refl v i))
  where
    by : (b c d : Bool) → d ≡ false → (b && c && d) ≡ false
    by true true d e = e
    by true false d e = refl
    by false c d e = refl

    unfit : (v : Candidate) → Comes task.rows.items from left row cube v → takes task v ≡ false
    unfit v c =
        by (is_some v.row) (not (meets v.row task.never)) (is_few task.variables.items v.cube)
        (false_from_ne_true (is_few task.variables.items v.cube)
        (λ e. clash (is_few task.variables.items cube) few
        (few_fewer task.variables.items cube c.more (sym (ap (λ w. is_few task.variables.items w.cube) c.is) ∙ e))))

row_of-within : (rows : List (List ℕ)) (row more : List ℕ) → Within (row_of rows row more) row
row_of-within rows row [] = within-itself row
row_of-within rows row (l ∷ ls) =
    within-along (row_of rows (both row (get_or rows l [])) ls) (both row (get_or rows l [])) row (row_of-within rows (both row (get_or rows l [])) ls)
    (both_within row (get_or rows l []))

-- the order of cubes is one
pub lex-along : (xs ys zs : List ℕ) → IsBefore xs ys → IsBefore ys zs → IsBefore xs zs
lex-along [] [] zs a b = absurd a
lex-along [] (y ∷ ys) [] a b = absurd b
lex-along [] (y ∷ ys) (z ∷ zs) a b = tt
lex-along (x ∷ xs) [] zs a b = absurd a
lex-along (x ∷ xs) (y ∷ ys) [] a b = absurd b
lex-along (x ∷ xs) (y ∷ ys) (z ∷ zs) a b =
    ⊎_elim
    (λ (l : x < y). ⊎_elim (λ (m : y < z). inl (omega (arith, l, m))) (λ (m : (y ≡ z) × IsBefore ys zs). inl (omega (arith, l, m.0))) b)
    (λ (l : (x ≡ y) × IsBefore xs ys).
    ⊎_elim
    (λ (m : y < z). inl (omega (arith, l.0, m)))
    (λ (m : (y ≡ z) × IsBefore ys zs). inr (l.0 ∙ m.0, lex-along xs ys zs l.1 m.1))
    b)
    a

pub lex-irreflexive : (xs : List ℕ) → IsBefore xs xs → ⊥
lex-irreflexive [] a = a
lex-irreflexive (x ∷ xs) a = ⊎_elim (λ (l : x < x). omega (arith, l)) (λ (l : (x ≡ x) × IsBefore xs xs). lex-irreflexive xs l.1) a

pub before-along : (c d e : Candidate) → Before c d → Before d e → Before c e
before-along c d e a b =
    ⊎_elim
    (λ (l : length c.cube < length d.cube). inl
    (⊎_elim (λ (m : length d.cube < length e.cube). omega (arith, l, m))
    (λ (m : (length d.cube ≡ length e.cube) × IsBefore d.cube e.cube). omega (arith, l, m.0)) b))
    (λ (l : (length c.cube ≡ length d.cube) × IsBefore c.cube d.cube).
    ⊎_elim
    (λ (m : length d.cube < length e.cube). inl (omega (arith, l.0, m)))
    (λ (m : (length d.cube ≡ length e.cube) × IsBefore d.cube e.cube). inr (l.0 ∙ m.0, lex-along c.cube d.cube e.cube l.1 m.1))
    b)
    a

pub before-irreflexive : (c : Candidate) → Before c c → ⊥
before-irreflexive c a = ⊎_elim (λ (l : length c.cube < length c.cube). omega (arith, l))
    (λ (l : (length c.cube ≡ length c.cube) × IsBefore c.cube c.cube). lex-irreflexive c.cube l.1) a

kept_is_keep : (task : Task) (cs kept : List Candidate) → kept_of task cs kept ≡ keep covers (takes task) cs kept
kept_is_keep task [] kept = refl
kept_is_keep task (c ∷ cs) kept = kept_is_keep task cs (considered task c kept)

module _ (task : Task) where
  visited_size : (n : ℕ) (v : Candidate) → IsIn v (visited task.never n 0 task.rows.items task.all []) → Comes task.rows.items 0 n task.all [] v
  visited_size n v has = comes task.rows.items task.never n 0 task.rows.items task.all [] refl v has

  all_smaller : (n : ℕ) (v : Candidate) → IsIn v (all_visited task n) → (m : ℕ) × (m < n) × Comes task.rows.items 0 m task.all [] v
  all_smaller zero v has = absurd has
  all_smaller (suc n) v has =
      ⊎_elim
      (λ (i : IsIn v (all_visited task n)). let s = all_smaller n v i in (s.0, omega (arith, s.1), s.2))
      (λ (i : IsIn v (visited task.never n 0 task.rows.items task.all [])). (n, omega arith, visited_size n v i))
      (in-cases (all_visited task n) (visited task.never n 0 task.rows.items task.all []) v has)

  size_of : (m : ℕ) (v : Candidate) → Comes task.rows.items 0 m task.all [] v → length v.cube ≡ m
  size_of m v c = ap (λ w. length w.cube) c.is ∙ c.size

  widen : (v w : Candidate) → length v.cube ≡ length w.cube → IsBefore v.cube w.cube → Before v w
  widen v w size lex = inr (size, lex)

  in_order : (n : ℕ) → Rises Before (all_visited task n)
  in_order zero = tt
  in_order (suc n) =
      rises-append Before (all_visited task n) (visited task.never n 0 task.rows.items task.all []) (in_order n)
      (one_size (visited task.never n 0 task.rows.items task.all []) (λ v i. size_of n v (visited_size n v i))
      (rises task.rows.items task.never n 0 task.rows.items task.all [] refl))
      (each-from (λ w. Each (λ v. Before v w) (all_visited task n)) (visited task.never n 0 task.rows.items task.all [])
      (λ w iw. each-from (λ v. Before v w) (all_visited task n)
      (λ v iv. let s = all_smaller n v iv in inl (omega (arith, size_of s.0 v s.2, s.1, size_of n w (visited_size n w iw))))))
    where
      one_size : (vs : List Candidate) → ((v : Candidate) → IsIn v vs → length v.cube ≡ n) → Rises (λ v w. IsBefore v.cube w.cube) vs → Rises Before vs
      one_size [] size up = tt
      one_size (v ∷ vs) size up = (
        each-from (Before v) vs (λ w i. widen v w (size v (inl refl) ∙ sym (size w (inr i))) (each-in (λ w. IsBefore v.cube w.cube) vs w up.0 i)),
        one_size vs (λ w i. size w (inr i)) up.1,
      )

  goes_through : (n m : ℕ) (v : Candidate) → m < n → IsIn v (visited task.never m 0 task.rows.items task.all []) → IsIn v (all_visited task n)
  goes_through zero m v h has = absurd (omega (arith, h))
  goes_through (suc n) m v h has =
      ⊎_elim
      (λ (e : m ≡ n). in-right (all_visited task n) (visited task.never n 0 task.rows.items task.all []) v
      (subst (λ k. IsIn v (visited task.never k 0 task.rows.items task.all [])) e has))
      (λ (l : m < n). in-left (all_visited task n) (visited task.never n 0 task.rows.items task.all []) v (goes_through n m v l has))
      (eq-or-lt_of_le (let s : m ≤ n = omega (arith, h) in s))

  good : IsGood covers (takes task) Before (all_visited task 5) (keep covers (takes task) (all_visited task 5) [])
  good = good_from_none covers (takes task) Before covers_order (all_visited task 5) (in_order 5)

  -- each cube that counts has one that was gone through, counts and is as wide; it is the cube itself or comes before it
  record HasBegin (c : Candidate) : Type 0 where
    begin : Candidate
    there : IsIn begin (all_visited task 5)
    counts : takes task begin ≡ true
    wide : covers c begin ≡ true
    first : IsAtMost Before begin c

  has_begin : (c : Candidate) → Counts task c → HasBegin c
  has_begin c counts = by (found task.rows.items task.never c.cube 0 task.rows.items task.all [] refl counts.0.tail)
    where
      by : Found task.rows.items task.never 0 task.rows.items task.all [] c.cube → HasBegin c
      by f = ⊎_elim whole shorter f.whole
        where
          begin_there : IsIn (candidate (row_of task.rows.items task.all f.begin) f.begin) (all_visited task 5)
          begin_there = goes_through 5 (length f.begin) (candidate (row_of task.rows.items task.all f.begin) f.begin)
              (omega (arith, counts.0.size, ap length f.is, length-append f.begin f.more)) f.there

          row_is : c.row ≡ row_of task.rows.items (row_of task.rows.items task.all f.begin) f.more
          row_is = counts.0.row ∙ ap (row_of task.rows.items task.all) f.is ∙ row_of-append task.rows.items task.all f.begin f.more

          inside : Within c.row (row_of task.rows.items task.all f.begin)
          inside = subst (λ r. Within r (row_of task.rows.items task.all f.begin)) (sym row_is)
              (row_of-within task.rows.items (row_of task.rows.items task.all f.begin) f.more)

          whole : f.more ≡ [] → HasBegin c
          whole none =
              let same_cube : f.begin ≡ c.cube = sym (append-nil f.begin) ∙ ap (λ l. f.begin ++ l) (sym none) ∙ sym f.is in
              let same_row : row_of task.rows.items task.all f.begin ≡ c.row = ap (row_of task.rows.items task.all) same_cube ∙ sym counts.0.row in
              let same : candidate (row_of task.rows.items task.all f.begin) f.begin ≡ c = (λ i. candidate (same_row i) (same_cube i)) in
              record {
                begin = candidate (row_of task.rows.items task.all f.begin) f.begin;
                there = begin_there;
                counts = ap (takes task) same ∙ counts.1;
                wide = within_to c.row (row_of task.rows.items task.all f.begin) inside;
                first = inl same;
              }

          shorter : meets (row_of task.rows.items task.all f.begin) task.never ≡ false → HasBegin c
          shorter none =
              let p = and_parts (is_some c.row && not (meets c.row task.never)) (is_few task.variables.items c.cube) counts.1 in
              let q = and_parts (is_some c.row) (not (meets c.row task.never)) p.0 in
              record {
                begin = candidate (row_of task.rows.items task.all f.begin) f.begin;
                there = begin_there;
                counts =
                    and_from (is_some (row_of task.rows.items task.all f.begin) && not (meets (row_of task.rows.items task.all f.begin) task.never))
                    (is_few task.variables.items f.begin)
                    (and_from (is_some (row_of task.rows.items task.all f.begin)) (not (meets (row_of task.rows.items task.all f.begin) task.never))
                    (some_wider c.row (row_of task.rows.items task.all f.begin) inside q.0)
                    (not_from_false (meets (row_of task.rows.items task.all f.begin) task.never) none))
                    (few_fewer task.variables.items f.begin f.more (subst (λ l. is_few task.variables.items l ≡ true) f.is p.1));
                wide = within_to c.row (row_of task.rows.items task.all f.begin) inside;
                first = shorter_or_same f.more refl;
              }
            where
              shorter_or_same : (more : List ℕ) → f.more ≡ more → IsAtMost Before (candidate (row_of task.rows.items task.all f.begin) f.begin) c
              shorter_or_same [] e = (whole e).first
              shorter_or_same (x ∷ more) e = inr (inl (omega (arith, ap length f.is, length-append f.begin f.more, ap length e)))

  at_most-along : (c d e : Candidate) → IsAtMost Before c d → IsAtMost Before d e → IsAtMost Before c e
  at_most-along c d e a b =
      ⊎_elim
      (λ (s : c ≡ d). subst (λ z. IsAtMost Before z e) (sym s) b)
      (λ (x : Before c d). ⊎_elim (λ (s : d ≡ e). inr (subst (Before c) s x)) (λ (y : Before d e). inr (before-along c d e x y)) b)
      a

  pub are_widest : AreWidest covers Before (Counts task) (kept_of task (all_visited task 5) [])
  are_widest = subst (AreWidest covers Before (Counts task)) (sym (kept_is_keep task (all_visited task 5) [])) (record {
    count = λ k has.
        let f = each-in (λ k. IsIn k (all_visited task 5) × (takes task k ≡ true)) (keep covers (takes task) (all_visited task 5) []) k good.from has in
        let s = all_smaller 5 k f.0 in
        (cube_of k s.0 s.1 s.2, f.1);
    represent = λ c counts.
        let b = has_begin c counts in
        let r = good.covers b.begin b.there b.counts in (
          r.0,
          r.1,
          (
            covers_order.along c b.begin r.0 b.wide r.2.0,
            λ back. at_most-along r.0 b.begin c (r.2.1 (covers_order.along r.0 c b.begin back b.wide)) b.first,
          ),
        );
    apart = good.apart;
    order = good.order;
  })
    where
      cube_of : (k : Candidate) (m : ℕ) → m < 5 → Comes task.rows.items 0 m task.all [] k → IsCube task k
      cube_of k m h c = record {
        row = ap (λ w. w.row) c.is ∙ ap (row_of task.rows.items task.all) (sym (ap (λ w. w.cube) c.is));
        tail = subst (IsTail 0 (length task.rows.items)) (sym (ap (λ w. w.cube) c.is)) c.tail;
        size = omega (arith, size_of m k c, h);
      }
