-- From rows and numbers to literals: what the search chooses are the cubes of literals that are to be chosen, of all literals, also those
-- that have no number since they are true everywhere or nowhere.
use Rattle.std.proofs.Common.{◌≡◌, ℕ, zero, suc, ◌<◌, ◌≤◌, Bool, true, false, not, cond, ◌&&◌, ◌||◌, List, [], ◌∷◌, map, length, get_or, drop, filter, refl, ap, sym, subst, ◌∙◌, inl, inr, ⊎_elim, arith, le_of_eq}
use Rattle.std.specs.Prelude.{◌⊎◌}
use Rattle.std.specs.List.{list_any}
use Rattle.std.proofs.lemmas.Bool.{and_parts, and_from, not-true, not_from_false, false_from_ne_true, true_from_ne_false, cases_order}
use Rattle.std.proofs.lemmas.List.{length-map}
use Rattle.cube_search.specs.Cubes.{IsTail, IsBefore, row_of, covers, Before, IsCube, Counts, IsSet, IsTrueAt, AreAsLong}
use Rattle.cube_search.specs.Lists.{Each, IsIn, Rises}
use Rattle.cube_search.specs.Rows.{is_some, meets}
use Rattle.cube_search.specs.Search.{candidate, is_few, takes}
use Rattle.cube_search.specs.Widest.{AreChosen}
use Rattle.cube_search.specs.declared.searching.Candidate.{Candidate}
use Rattle.cube_search.specs.declared.searching.Task.{Task}
use Rattle.cube_search.proofs.Bits.{within_bits, bits_missing}
use Rattle.cube_search.proofs.Carried.{Stands, AreChosenOf, carried}
use Rattle.cube_search.proofs.Chosen.{length-row_of}
use Rattle.cube_search.proofs.Lists.{each-in, each-from, each-weaker, each-filter, in-filter, rises-filter, any-in}
use Rattle.cube_search.proofs.RowLaws.{within_from}
use Rattle.cube_search.proofs.Tests.{some_set, set_some, meets_some, some_meets, row_bits, bits_row}

-- place by place
abbrev pub Lexes : {L : Type 0} → (L → L → Type 0) → List L → List L → Type 0
Lexes Less [] [] = ⊥
Lexes Less [] (m ∷ ms) = Unit {0}
Lexes Less (l ∷ ls) [] = ⊥
Lexes Less (l ∷ ls) (m ∷ ms) = Less l m ⊎ ((l ≡ m) × Lexes Less ls ms)

-- by size, then literals
abbrev pub Precedes : {L : Type 0} → (L → L → Type 0) → List L → List L → Type 0
Precedes Less c e = (length c < length e) ⊎ ((length c ≡ length e) × Lexes Less c e)

-- a strict order with a test for equality
pub record IsStrict {L : Type 0} (Less : L → L → Type 0) (eq : L → L → Bool) : Type 0 where
  pub irreflexive : (l : L) → Less l l → ⊥
  pub along : (l m n : L) → Less l m → Less m n → Less l n
  pub one : (l m : L) → eq l m ≡ true → l ≡ m
  pub itself : (l : L) → eq l l ≡ true

lexes-along : {L : Type 0} (Less : L → L → Type 0) → ((l m n : L) → Less l m → Less m n → Less l n) → (xs ys zs : List L) → Lexes Less xs ys → Lexes Less ys zs
    → Lexes Less xs zs
lexes-along Less along [] [] zs a b = absurd a
lexes-along Less along [] (y ∷ ys) [] a b = absurd b
lexes-along Less along [] (y ∷ ys) (z ∷ zs) a b = tt
lexes-along Less along (x ∷ xs) [] zs a b = absurd a
lexes-along Less along (x ∷ xs) (y ∷ ys) [] a b = absurd b
lexes-along Less along (x ∷ xs) (y ∷ ys) (z ∷ zs) a b =
    ⊎_elim
    (λ (l : Less x y). ⊎_elim (λ (m : Less y z). inl (along x y z l m)) (λ (m : (y ≡ z) × Lexes Less ys zs). inl (subst (Less x) m.0 l)) b)
    (λ (l : (x ≡ y) × Lexes Less xs ys).
    ⊎_elim
    (λ (m : Less y z). inl (subst (λ w. Less w z) (sym l.0) m))
    (λ (m : (y ≡ z) × Lexes Less ys zs). inr (l.0 ∙ m.0, lexes-along Less along xs ys zs l.1 m.1))
    b)
    a

precedes-along : {L : Type 0} (Less : L → L → Type 0) → ((l m n : L) → Less l m → Less m n → Less l n) → (xs ys zs : List L) → Precedes Less xs ys
    → Precedes Less ys zs → Precedes Less xs zs
precedes-along Less along xs ys zs a b =
    ⊎_elim
    (λ (l : length xs < length ys). inl
    (⊎_elim (λ (m : length ys < length zs). omega (arith, l, m)) (λ (m : (length ys ≡ length zs) × Lexes Less ys zs). omega (arith, l, m.0)) b))
    (λ (l : (length xs ≡ length ys) × Lexes Less xs ys).
    ⊎_elim
    (λ (m : length ys < length zs). inl (omega (arith, l.0, m)))
    (λ (m : (length ys ≡ length zs) × Lexes Less ys zs). inr (l.0 ∙ m.0, lexes-along Less along xs ys zs l.1 m.1))
    b)
    a

each-get : {L : Type 0} (P : L → Type 0) (xs : List L) (n : ℕ) (d : L) → n < length xs → Each P xs → P (get_or xs n d)
each-get P [] n d h each = absurd (omega arith)
each-get P (x ∷ xs) zero d h each = each.0
each-get P (x ∷ xs) (suc n) d h each = each-get P xs n d (omega arith) each.1

uncons : {L : Type 0} (xs : List L) (from : ℕ) (d r : L) (rest : List L) → drop from xs ≡ r ∷ rest
    → (get_or xs from d ≡ r) × (drop (suc from) xs ≡ rest) × (from < length xs)
uncons [] zero d r rest e = absurd (cc)
uncons [] (suc from) d r rest e = absurd (cc)
uncons (x ∷ xs) zero d r rest e = (let a : x ≡ r = cc in a, let b : xs ≡ rest = cc in b, omega arith)
uncons (x ∷ xs) (suc from) d r rest e = let u = uncons xs from d r rest e in (u.0, u.1, omega (arith, u.2))

-- a list that rises and whose items are all in another one that rises is that one or shorter
module _ {L : Type 0} (Less : L → L → Type 0) (eq : L → L → Bool) (strict : IsStrict Less eq) where
  tail_in : (a b : L) (xs ys : List L) → Less b a ⊎ (b ≡ a) → Each (Less a) xs → Each (λ x. IsIn x (b ∷ ys)) xs → Each (λ x. IsIn x ys) xs
  tail_in a b [] ys h up has = tt
  tail_in a b (x ∷ xs) ys h up has = (
    ⊎_elim
        (λ (e : b ≡ x). absurd
        (strict.irreflexive x
        (⊎_elim (λ (l : Less b a). strict.along x a x (subst (λ z. Less z a) e l) up.0) (λ (f : b ≡ a). subst (λ z. Less z x) (sym f ∙ e) up.0) h)))
        (λ (i : IsIn x ys). i)
        has.0,
    tail_in a b xs ys h up.1 has.1,
  )

  pub shorter_or_same : (xs ys : List L) → Rises Less xs → Rises Less ys → Each (λ x. IsIn x ys) xs → (xs ≡ ys) ⊎ (length xs < length ys)
  shorter_or_same [] [] up up' has = inl refl
  shorter_or_same [] (y ∷ ys) up up' has = inr (omega arith)
  shorter_or_same (x ∷ xs) [] up up' has = absurd has.0
  shorter_or_same (x ∷ xs) (y ∷ ys) up up' has =
      ⊎_elim
      (λ (e : y ≡ x).
      ⊎_elim
      (λ (s : xs ≡ ys). inl (λ i. sym e i ∷ s i))
      (λ (s : length xs < length ys). inr (omega (arith, s)))
      (shorter_or_same xs ys up.1 up'.1 (tail_in x y xs ys (inr e) up.0 has.1)))
      (λ (i : IsIn x ys).
      let below : Less y x = each-in (Less y) ys x up'.0 i in
      inr (⊎_elim
      (λ (s : x ∷ xs ≡ ys). omega (arith, ap length s))
      (λ (s : suc (length xs) < length ys). omega (arith, s))
      (shorter_or_same (x ∷ xs) ys up up'.1 (i, tail_in x y xs ys (inl below) up.0 has.1))))
      has.0

  pub less_at : (ls : List L) (d : L) (n m : ℕ) → Rises Less ls → n < m → m < length ls → Less (get_or ls n d) (get_or ls m d)
  less_at [] d n m up h k = absurd (omega arith)
  less_at (l ∷ ls) d n zero up h k = absurd (omega arith)
  less_at (l ∷ ls) d zero (suc m) up h k = each-get (Less l) ls m d (omega arith) up.0
  less_at (l ∷ ls) d (suc n) (suc m) up h k = less_at ls d n m up.1 (omega arith) (omega arith)

  in_from : (x : L) (xs : List L) → list_any (eq x) xs ≡ true → IsIn x xs
  in_from x xs h = let a = any-in (eq x) xs h in subst (λ z. IsIn z xs) (sym (strict.one x a.0 a.2)) a.1

  to_any : (x : L) (xs : List L) → IsIn x xs → list_any (eq x) xs ≡ true
  to_any x [] has = absurd has
  to_any x (y ∷ ys) has = by (eq x y) refl (to_any x ys)
    where
      by : (b : Bool) → eq x y ≡ b → (IsIn x ys → list_any (eq x) ys ≡ true) → (b || list_any (eq x) ys) ≡ true
      by true e rest = refl
      by false e rest = ⊎_elim (λ (s : y ≡ x). absurd (let t : eq x y ≡ true = ap (eq x) s ∙ strict.itself x in cc)) rest has

-- Cubes of literals: `Holds` says at which cases a literal is true, `Is` which cases there are, `Wrong` where the tree is false.
module _ {L : Type 0} (Less : L → L → Type 0) (Holds : L → ℕ × ℕ → Type 0) (Is Wrong : ℕ × ℕ → Type 0) (Over : L → Type 0) (few : List L → Bool) where
  abbrev pub IsTrueIn : List L → ℕ × ℕ → Type 0
  IsTrueIn c x = Is x × Each (λ l. Holds l x) c

  pub record IsImplicant (c : List L) : Type 0 where
    pub ordered : Rises Less c
    pub over : Each Over c
    pub size : length c < 5
    pub few_variables : few c ≡ true
    pub some : (x : ℕ × ℕ) × IsTrueIn c x
    pub none : (x : ℕ × ℕ) → IsTrueIn c x → Wrong x → ⊥

  -- the task has the rows of these literals; a literal that has no number is true everywhere or nowhere
  pub record IsTable (d : L) (ls : List L) (task : Task) : Type 0 where
    pub ordered : Rises Less ls
    pub over : Each Over ls
    pub complete : (l : L) → Over l → IsIn l ls ⊎ (((x : ℕ × ℕ) → Is x → Holds l x) ⊎ ((x : ℕ × ℕ) → Is x → Holds l x → ⊥))
    pub as_many : length task.rows.items ≡ length ls
    pub rows_to : (n : ℕ) (x : ℕ × ℕ) → n < length ls → IsSet (get_or task.rows.items n []) x.0 x.1 → Holds (get_or ls n d) x
    pub rows_from : (n : ℕ) (x : ℕ × ℕ) → n < length ls → Is x → Holds (get_or ls n d) x → IsSet (get_or task.rows.items n []) x.0 x.1
    pub all_to : (x : ℕ × ℕ) → IsSet task.all x.0 x.1 → Is x
    pub all_from : (x : ℕ × ℕ) → Is x → IsSet task.all x.0 x.1
    pub never_to : (x : ℕ × ℕ) → IsSet task.never x.0 x.1 → Wrong x
    pub never_from : (x : ℕ × ℕ) → Is x → Wrong x → IsSet task.never x.0 x.1
    pub few_same : (cube : List ℕ) → IsTail 0 (length ls) cube → few (map (λ n. get_or ls n d) cube) ≡ is_few task.variables.items cube
    pub few_less : (c e : List L) → Each (λ l. IsIn l e) c → few e ≡ true → few c ≡ true

  module _ (eq : L → L → Bool) (strict : IsStrict Less eq) (d : L) (ls : List L) (task : Task) (table : IsTable d ls task) (none : List ℕ)
      (long : AreAsLong task none) where
    abbrev pub literals : List ℕ → List L
    literals cube = map (λ n. get_or ls n d) cube

    abbrev pub cube_of : Candidate → List L
    cube_of c = literals c.cube

    hold : (x : ℕ × ℕ) (from : ℕ) (cube : List ℕ) → IsTail from (length task.rows.items) cube → Each (λ n. IsSet (get_or task.rows.items n []) x.0 x.1) cube
        → Each (λ l. Holds l x) (literals cube)
    hold x from [] tail each = tt
    hold x from (n ∷ ns) tail each = (table.rows_to n x (omega (arith, tail.1, table.as_many)) each.0, hold x (suc n) ns tail.2 each.1)

    set : (x : ℕ × ℕ) (from : ℕ) (cube : List ℕ) → IsTail from (length task.rows.items) cube → Is x → Each (λ l. Holds l x) (literals cube)
        → Each (λ n. IsSet (get_or task.rows.items n []) x.0 x.1) cube
    set x from [] tail is each = tt
    set x from (n ∷ ns) tail is each = (table.rows_from n x (omega (arith, tail.1, table.as_many)) is each.0, set x (suc n) ns tail.2 is each.1)

    to : (c : Candidate) (x : ℕ × ℕ) → IsCube task c → IsTrueAt c x → IsTrueIn (cube_of c) x
    to c x cube s =
        let b = row_bits task.rows.items task.all c.cube x.0 x.1 (subst (λ r. IsSet r x.0 x.1) cube.row s) in
        (table.all_to x b.0, hold x 0 c.cube cube.tail b.1)

    from : (c : Candidate) (x : ℕ × ℕ) → IsCube task c → IsTrueIn (cube_of c) x → IsTrueAt c x
    from c x cube t =
        subst (λ r. IsSet r x.0 x.1) (sym cube.row) (bits_row task.rows.items task.all c.cube x.0 x.1 (table.all_from x t.0) (set x 0 c.cube cube.tail t.0 t.1))

    rising : (low : ℕ) (cube : List ℕ) → IsTail low (length task.rows.items) cube → Rises Less (literals cube)
    rising low [] tail = tt
    rising low (n ∷ ns) tail = (above n (suc n) ns (omega arith) tail.2, rising (suc n) ns tail.2)
      where
        above : (n low : ℕ) (ms : List ℕ) → n < low → IsTail low (length task.rows.items) ms → Each (Less (get_or ls n d)) (literals ms)
        above n low [] h tail = tt
        above n low (m ∷ ms) h tail = (
          less_at Less eq strict ls d n m table.ordered (omega (arith, h, tail.0)) (omega (arith, tail.1, table.as_many)),
          above n (suc m) ms
              (omega (arith, h, tail.0)) tail.2,
        )

    are_over : (low : ℕ) (cube : List ℕ) → IsTail low (length task.rows.items) cube → Each Over (literals cube)
    are_over low [] tail = tt
    are_over low (n ∷ ns) tail = (each-get Over ls n d (omega (arith, tail.1, table.as_many)) table.over, are_over (suc n) ns tail.2)

    takes_parts : (c : Candidate) → takes task c ≡ true
        → (is_some c.row ≡ true) × (meets c.row task.never ≡ false) × (is_few task.variables.items c.cube ≡ true)
    takes_parts c h =
        let p = and_parts (is_some c.row && not (meets c.row task.never)) (is_few task.variables.items c.cube) h in
        let q = and_parts (is_some c.row) (not (meets c.row task.never)) p.0 in
        (q.0, not-true (meets c.row task.never) q.1, p.1)

    counts_to : (c : Candidate) → Counts task c → IsImplicant (cube_of c)
    counts_to c h =
        let p = takes_parts c h.1 in
        record {
          ordered = rising 0 c.cube h.0.tail;
          over = are_over 0 c.cube h.0.tail;
          size = omega (arith, h.0.size, length-map c.cube (λ n. get_or ls n d));
          few_variables = table.few_same c.cube (subst (λ n. IsTail 0 n c.cube) table.as_many h.0.tail) ∙ p.2;
          some = let s = some_set c.row p.0 in ((s.0, s.1), to c (s.0, s.1) h.0 s.2);
          none = λ x t wrong. absurd (let m = some_meets c.row task.never x.0 x.1 (from c x h.0 t) (table.never_from x t.0 wrong) in let n = p.1 in cc);
        }

    lex_to : (low : ℕ) (xs ys : List ℕ) → IsTail low (length task.rows.items) xs → IsTail low (length task.rows.items) ys → IsBefore xs ys
        → Lexes Less (literals xs) (literals ys)
    lex_to low [] [] a b h = h
    lex_to low [] (y ∷ ys) a b h = tt
    lex_to low (x ∷ xs) [] a b h = h
    lex_to low (x ∷ xs) (y ∷ ys) a b h =
        ⊎_elim
        (λ (l : x < y). inl (less_at Less eq strict ls d x y table.ordered l (omega (arith, b.1, table.as_many))))
        (λ (l : (x ≡ y) × IsBefore xs ys). inr
        (ap (λ n. get_or ls n d) l.0, lex_to (suc x) xs ys a.2 (subst (λ n. IsTail (suc n) (length task.rows.items) ys) (sym l.0) b.2) l.1))
        h

    one_place : (x y : ℕ) → x < length ls → y < length ls → get_or ls x d ≡ get_or ls y d → x ≡ y
    one_place x y h k e =
        ⊎_elim
        (λ (s : x ≡ y). s)
        (⊎_elim
        (λ (l : x < y). absurd (strict.irreflexive (get_or ls y d) (subst (λ z. Less z (get_or ls y d)) e (less_at Less eq strict ls d x y table.ordered l k))))
        (λ (l : y < x). absurd
        (strict.irreflexive (get_or ls x d) (subst (λ z. Less z (get_or ls x d)) (sym e) (less_at Less eq strict ls d y x table.ordered l h)))))
        (cases_order x y)

    less_back : (x y : ℕ) → x < length ls → y < length ls → Less (get_or ls x d) (get_or ls y d) → x < y
    less_back x y h k l =
        ⊎_elim
        (λ (s : x ≡ y). absurd (strict.irreflexive (get_or ls y d) (subst (λ n. Less (get_or ls n d) (get_or ls y d)) s l)))
        (⊎_elim
        (λ (m : x < y). m)
        (λ (m : y < x). absurd
        (strict.irreflexive (get_or ls x d)
        (strict.along (get_or ls x d) (get_or ls y d) (get_or ls x d) l (less_at Less eq strict ls d y x table.ordered m h)))))
        (cases_order x y)

    lex_back : (low : ℕ) (xs ys : List ℕ) → IsTail low (length task.rows.items) xs → IsTail low (length task.rows.items) ys
        → Lexes Less (literals xs) (literals ys) → IsBefore xs ys
    lex_back low [] [] a b h = h
    lex_back low [] (y ∷ ys) a b h = tt
    lex_back low (x ∷ xs) [] a b h = h
    lex_back low (x ∷ xs) (y ∷ ys) a b h =
        ⊎_elim
        (λ (l : Less (get_or ls x d) (get_or ls y d)). inl (less_back x y (omega (arith, a.1, table.as_many)) (omega (arith, b.1, table.as_many)) l))
        (λ (l : (get_or ls x d ≡ get_or ls y d) × Lexes Less (literals xs) (literals ys)).
        let e = one_place x y (omega (arith, a.1, table.as_many)) (omega (arith, b.1, table.as_many)) l.0 in
        inr (e, lex_back (suc x) xs ys a.2 (subst (λ n. IsTail (suc n) (length task.rows.items) ys) (sym e) b.2) l.1))
        h

    later : (c e : Candidate) → Counts task c → Counts task e → Before c e → Precedes Less (cube_of c) (cube_of e)
    later c e h k b =
        let m = length-map c.cube (λ n. get_or ls n d) in
        let n = length-map e.cube (λ n. get_or ls n d) in
        ⊎_elim
        (λ (l : length c.cube < length e.cube). inl (omega (arith, l, m, n)))
        (λ (l : (length c.cube ≡ length e.cube) × IsBefore c.cube e.cube). inr (omega (arith, l.0, m, n), lex_to 0 c.cube e.cube h.0.tail k.0.tail l.1))
        b

    back : (c e : Candidate) → Counts task c → Counts task e → Precedes Less (cube_of c) (cube_of e) → Before c e
    back c e h k b =
        let m = length-map c.cube (λ n. get_or ls n d) in
        let n = length-map e.cube (λ n. get_or ls n d) in
        ⊎_elim
        (λ (l : length (cube_of c) < length (cube_of e)). inl (omega (arith, l, m, n)))
        (λ (l : (length (cube_of c) ≡ length (cube_of e)) × Lexes Less (cube_of c) (cube_of e)). inr
        (omega (arith, l.0, m, n), lex_back 0 c.cube e.cube h.0.tail k.0.tail l.1))
        b

    tells : (c e : Candidate) → Counts task c → Counts task e → ((x : ℕ × ℕ) → IsTrueAt c x → IsTrueAt e x) → covers c e ≡ true
    tells c e h k inside =
        true_from_ne_false (covers c e)
        (λ f.
        let lc = ap length h.0.row ∙ length-row_of task.rows.items task.all (length none) 0 c.cube long.rows long.all h.0.tail in
        let le = ap length k.0.row ∙ length-row_of task.rows.items task.all (length none) 0 e.cube long.rows long.all k.0.tail in
        let m = bits_missing c.row e.row (le_of_eq (lc ∙ sym le)) f in
        m.3 (inside (m.0, m.1) m.2))

    -- the numbers, from `low` on, of those of the rest that are in r
    abbrev picks : List L → ℕ → List L → List ℕ
    picks r low [] = []
    picks r low (l ∷ rest) = cond (list_any (eq l) r) (low ∷ picks r (suc low) rest) (picks r (suc low) rest)

    picked : (r : List L) (low : ℕ) (rest : List L) → drop low ls ≡ rest → literals (picks r low rest) ≡ filter (λ l. list_any (eq l) r) rest
    picked r low [] e = refl
    picked r low (l ∷ rest) e = let u = uncons ls low d l rest e in by (list_any (eq l) r) u.0 (picked r (suc low) rest u.1)
      where
        by : (b : Bool) → get_or ls low d ≡ l → literals (picks r (suc low) rest) ≡ filter (λ l. list_any (eq l) r) rest
            → literals (cond b (low ∷ picks r (suc low) rest) (picks r (suc low) rest)) ≡ cond b (l ∷ filter (λ l. list_any (eq l) r) rest)
            (filter (λ l. list_any (eq l) r) rest)
        by true s more = λ i. s i ∷ more i
        by false s more = more

    weaker_tail : (low from n : ℕ) (t : List ℕ) → low ≤ from → IsTail from n t → IsTail low n t
    weaker_tail low from n [] h is = tt
    weaker_tail low from n (x ∷ t) h is = (omega (arith, h, is.0), is.1, is.2)

    picks_tail : (r : List L) (low : ℕ) (rest : List L) → drop low ls ≡ rest → IsTail low (length task.rows.items) (picks r low rest)
    picks_tail r low [] e = tt
    picks_tail r low (l ∷ rest) e = let u = uncons ls low d l rest e in by (list_any (eq l) r) u.2 (picks_tail r (suc low) rest u.1)
      where
        by : (b : Bool) → low < length ls → IsTail (suc low) (length task.rows.items) (picks r (suc low) rest)
            → IsTail low (length task.rows.items) (cond b (low ∷ picks r (suc low) rest) (picks r (suc low) rest))
        by true h more = (omega arith, omega (arith, h, table.as_many), more)
        by false h more = weaker_tail low (suc low) (length task.rows.items) (picks r (suc low) rest) (omega arith) more

    -- the cube of those literals of r that have numbers
    abbrev kept_of_cube : List L → List L
    kept_of_cube r = filter (λ l. list_any (eq l) r) ls

    all_in : (r : List L) → Each (λ l. IsIn l r) (kept_of_cube r)
    all_in r = each-weaker (λ l. Unit {0} × (list_any (eq l) r ≡ true)) (λ l. IsIn l r) (λ l h. in_from Less eq strict l r h.1) (kept_of_cube r)
        (each-filter (λ l. Unit {0}) (λ l. list_any (eq l) r) ls (each-from (λ l. Unit {0}) ls (λ l h. tt)))

    kept_shorter : (r : List L) → IsImplicant r → (kept_of_cube r ≡ r) ⊎ (length (kept_of_cube r) < length r)
    kept_shorter r h = shorter_or_same Less eq strict (kept_of_cube r) r (rises-filter Less (λ l. list_any (eq l) r) ls table.ordered) h.ordered (all_in r)

    kept_true : (r : List L) (x : ℕ × ℕ) → IsTrueIn r x → IsTrueIn (kept_of_cube r) x
    kept_true r x t = (t.0, each-weaker (λ l. IsIn l r) (λ l. Holds l x) (λ l i. each-in (λ l. Holds l x) r l t.1 i) (kept_of_cube r) (all_in r))

    true_kept : (r : List L) (x : ℕ × ℕ) → IsImplicant r → IsTrueIn (kept_of_cube r) x → IsTrueIn r x
    true_kept r x h t = (
      t.0,
      each-from (λ l. Holds l x) r
          (λ l i.
          ⊎_elim
          (λ (in_table : IsIn l ls). each-in (λ l. Holds l x) (kept_of_cube r) l t.1
          (in-filter (λ l. list_any (eq l) r) ls l in_table (to_any Less eq strict l r i)))
          (⊎_elim
          (λ (always : (x : ℕ × ℕ) → Is x → Holds l x). always x t.0)
          (λ (nowhere : (x : ℕ × ℕ) → Is x → Holds l x → ⊥). absurd (nowhere h.some.0 h.some.1.0 (each-in (λ l. Holds l h.some.0) r l h.some.1.1 i))))
          (table.complete l (each-in Over r l h.over i))),
    )

    abbrev item : List L → Candidate
    item r = candidate (row_of task.rows.items task.all (picks r 0 ls)) (picks r 0 ls)

    item_is : (r : List L) → cube_of (item r) ≡ kept_of_cube r
    item_is r = picked r 0 ls refl

    item_cube : (r : List L) → IsImplicant r → IsCube task (item r)
    item_cube r h = record {
      row = refl;
      tail = picks_tail r 0 ls refl;
      size = omega (
        arith,
        h.size,
        length-map (picks r 0 ls) (λ n. get_or ls n d),
        ap length (item_is r),
        ⊎_elim {C = length (kept_of_cube r) ≤ length r}
            (λ (e : kept_of_cube r ≡ r). le_of_eq (ap length e)) (λ (l : length (kept_of_cube r) < length r). omega (arith, l)) (kept_shorter r h),
      );
    }

    item_counts : (r : List L) → IsImplicant r → Counts task (item r)
    item_counts r h =
        let cube = item_cube r h in
        let there : (x : ℕ × ℕ) → IsTrueIn r x → IsTrueAt (item r) x = λ x t. from (item r) x cube
        (subst (λ c. IsTrueIn c x) (sym (item_is r)) (kept_true r x t)) in
        let away : (x : ℕ × ℕ) → IsTrueAt (item r) x → IsTrueIn r x = λ x t. true_kept r x h (subst (λ c. IsTrueIn c x) (item_is r) (to (item r) x cube t)) in (
          cube,
          and_from (is_some (item r).row && not (meets (item r).row task.never)) (is_few task.variables.items (item r).cube)
              (and_from (is_some (item r).row) (not (meets (item r).row task.never))
              (set_some (item r).row h.some.0.0 h.some.0.1 (there h.some.0 h.some.1))
              (not_from_false (meets (item r).row task.never)
              (false_from_ne_true (meets (item r).row task.never)
              (λ m. let b = meets_some (item r).row task.never m in h.none (b.0, b.1) (away (b.0, b.1) b.2) (table.never_to (b.0, b.1) b.3)))))
              (sym (table.few_same (item r).cube (subst (λ n. IsTail 0 n (item r).cube) table.as_many cube.tail))
              ∙ ap few (item_is r) ∙ table.few_less (kept_of_cube r) r (all_in r) h.few_variables),
        )

    pub stands : Stands IsTrueAt Before covers (Counts task) IsTrueIn (Precedes Less) IsImplicant cube_of
    stands = record {
      counts = counts_to;
      to = λ c x h t. to c x h.0 t;
      from = λ c x h t. from c x h.0 t;
      later = later;
      back = back;
      along = precedes-along Less strict.along;
      wide = λ c e h k w x t. within_bits c.row e.row x.0 x.1 (within_from c.row e.row w) t;
      tells = tells;
      item = λ r h. item r;
      item_counts = λ r h. item_counts r h;
      item_true = λ r h x t. subst (λ c. IsTrueIn c x) (sym (item_is r)) (kept_true r x t);
      true_item = λ r h x t. true_kept r x h (subst (λ c. IsTrueIn c x) (item_is r) t);
      item_first = λ r h.
          ⊎_elim
          (λ (e : kept_of_cube r ≡ r). inl (item_is r ∙ e))
          (λ (l : length (kept_of_cube r) < length r). inr (inl (omega (arith, l, ap length (item_is r)))))
          (kept_shorter r h);
    }

    -- what is chosen among numbers is, as literals, what is to be chosen among all cubes
    pub chosen_literals : (chosen : List Candidate) → AreChosen IsTrueAt Before covers (Counts task) chosen
        → AreChosenOf IsTrueIn (Precedes Less) IsImplicant (map cube_of chosen)
    chosen_literals chosen are = carried IsTrueAt Before covers (Counts task) IsTrueIn (Precedes Less) IsImplicant cube_of stands chosen are
