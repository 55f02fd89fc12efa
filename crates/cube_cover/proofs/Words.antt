-- What is chosen among lists of literals at words and bits, in the words of the definition: cubes in configurations of a care list.
use Rattle.std.proofs.Common.{◌≡◌, ℕ, ◌+◌, ◌*◌, ◌/◌, ◌%◌, ◌<◌, true, false, List, [], ◌∷◌, length, get_or, map, Contains, Some, refl, ap, sym, subst, ◌∙◌, inl, inr, ⊎_elim, arith, le-leb, leb-true}
use Rattle.std.specs.Prelude.{◌⊎◌, slice_get}
use Rattle.std.specs.Cmp.Lexicographic.{slice_cmp}
use Rattle.std.specs.Ordering.{nat_cmp, ordering_then}
use Rattle.std.specs.Cmp.{nat_cmp_is}
use Rattle.std.specs.declared.cmp.Ordering.{Ordering}
use Rattle.std.specs.declared.cmp.Ordering.TheVariants.{Less, Equal, Greater}
use Rattle.std.proofs.lemmas.Bool.{and_parts, and_from, cases_order, true_from_ne_false}
use Rattle.std.proofs.lemmas.Cmp.{tied_itself}
use Rattle.std.proofs.lemmas.Map.Lookups.{exact_unsigned}
use Rattle.std.proofs.lemmas.List.Elements.{Contains-get_or}
use Rattle.std.proofs.lemmas.Option.{get_or_from_slice_get, slice_get-get_or, slice_get_within}
use Rattle.access_paths.specs.{Ascend, IsLiteral, answer, compare_cubes, compare_literals, cube_holds, literal_holds}
use Rattle.access_paths.specs.Trees.{Tree}
use Rattle.access_paths.specs.declared.term.Cube.{Cube}
use Rattle.access_paths.specs.declared.term.Literal.{Literal}
use Rattle.access_paths.specs.declared.term.Term.{Term}
use Rattle.access_paths.proofs.Exact.{literals_exact}
use Rattle.access_paths.proofs.Orders.{literals_total}
use Rattle.case_model.specs.{AreDisjuncts, HasTerms, by_blocks, terms_of_cube, variable_count}
use Rattle.case_model.specs.Disjuncts as told
use Rattle.cube_search.specs.Lists.{Each, IsIn, Rises}
use Rattle.cube_search.proofs.Carried.{AreChosenOf}
use Rattle.cube_search.proofs.Lists.{each-in, each-weaker}
use Rattle.cube_search.proofs.Literals.{IsImplicant, IsTrueIn, Precedes, Lexes}
use Rattle.cube_cover.proofs.Few.{cube, is_few}
use Rattle.cube_cover.proofs.Named.{contains_in, each_get, get_each, in_contains, rises_pairs}
use Rattle.cube_cover.proofs.Order.{IsLessLiteral, strict_literals}

-- the configuration of a word and a bit
abbrev pub At : List (List ℕ) → ℕ × ℕ → List ℕ → Type 0
At care x bs = (x.1 < 64) × (slice_get care (64 * x.0 + x.1) ≡ Some bs)

abbrev IsLessCube : Cube → Cube → Type 0
IsLessCube c d = compare_cubes c d ≡ Less

-- a literal of two terms of the list
abbrev pub IsOver : List Term → Literal → Type 0
IsOver ts l = Contains ts l.less × Contains ts l.more × IsLiteral l

-- the first comparison decides, or else the second
then_less : (a b : Ordering) → ordering_then a b ≡ Less → (a ≡ Less) ⊎ ((a ≡ Equal) × (b ≡ Less))
then_less Less b e = inl refl
then_less Equal b e = inr (refl, e)
then_less Greater b e = absurd (cc)

less_then : (a b : Ordering) → (a ≡ Less) ⊎ ((a ≡ Equal) × (b ≡ Less)) → ordering_then a b ≡ Less
less_then a b h =
    ⊎_elim (λ (l : a ≡ Less). ap (λ o. ordering_then o b) l) (λ (e : (a ≡ Equal) × (b ≡ Less)). ap (λ o. ordering_then o b) e.0 ∙ e.1) h

cmp_less : (m n : ℕ) → nat_cmp m n ≡ Less → m < n
cmp_less m n h =
    ⊎_elim
    (λ (e : m ≡ n). absurd (let same = nat_cmp_is m n Equal e in cc))
    (⊎_elim (λ (l : m < n). l) (λ (l : n < m). absurd (let more = nat_cmp_is m n Greater l in cc)))
    (cases_order m n)

lex_told : (c d : List Literal) → Lexes IsLessLiteral c d → slice_cmp compare_literals c d ≡ Less
lex_told [] [] h = absurd h
lex_told [] (y ∷ ys) h = refl
lex_told (x ∷ xs) [] h = absurd h
lex_told (x ∷ xs) (y ∷ ys) h =
    less_then (compare_literals x y) (slice_cmp compare_literals xs ys)
    (⊎_elim
    (λ (l : IsLessLiteral x y). inl l)
    (λ (l : (x ≡ y) × Lexes IsLessLiteral xs ys). inr (ap (compare_literals x) (sym l.0) ∙ tied_itself literals_total x, lex_told xs ys l.1))
    h)

told_lex : (c d : List Literal) → slice_cmp compare_literals c d ≡ Less → Lexes IsLessLiteral c d
told_lex [] [] h = absurd (cc)
told_lex [] (y ∷ ys) h = tt
told_lex (x ∷ xs) [] h = absurd (cc)
told_lex (x ∷ xs) (y ∷ ys) h =
    ⊎_elim
    (λ (l : compare_literals x y ≡ Less). inl l)
    (λ (e : (compare_literals x y ≡ Equal) × (slice_cmp compare_literals xs ys ≡ Less)). inr (literals_exact x y e.0, told_lex xs ys e.1))
    (then_less (compare_literals x y) (slice_cmp compare_literals xs ys) h)

less_told : (c d : List Literal) → Precedes IsLessLiteral c d → IsLessCube (cube c) (cube d)
less_told c d h =
    less_then (nat_cmp (length c) (length d)) (slice_cmp compare_literals c d)
    (⊎_elim
    (λ (l : length c < length d). inl (sym (nat_cmp_is (length c) (length d) Less l)))
    (λ (l : (length c ≡ length d) × Lexes IsLessLiteral c d). inr (sym (nat_cmp_is (length c) (length d) Equal l.0), lex_told c d l.1))
    h)

told_less : (c d : List Literal) → IsLessCube (cube c) (cube d) → Precedes IsLessLiteral c d
told_less c d h =
    ⊎_elim
    (λ (l : nat_cmp (length c) (length d) ≡ Less). inl (cmp_less (length c) (length d) l))
    (λ (e : (nat_cmp (length c) (length d) ≡ Equal) × (slice_cmp compare_literals c d ≡ Less)). inr (exact_unsigned (length c) (length d) e.0, told_lex c d e.1))
    (then_less (nat_cmp (length c) (length d)) (slice_cmp compare_literals c d) h)

rises_ascends : (ls : List Literal) → Rises IsLessLiteral ls → Ascend ls
rises_ascends [] up = tt
rises_ascends (l ∷ []) up = tt
rises_ascends (l ∷ m ∷ ls) up = (up.0.0, rises_ascends (m ∷ ls) up.1)

above : (l m : Literal) (ls : List Literal) → IsLessLiteral l m → Ascend (m ∷ ls) → Each (IsLessLiteral l) (m ∷ ls)
above l m [] less up = (less, tt)
above l m (n ∷ ls) less up = (less, above l n ls (strict_literals.along l m n less up.0) up.1)

ascends_rises : (ls : List Literal) → Ascend ls → Rises IsLessLiteral ls
ascends_rises [] up = tt
ascends_rises (l ∷ []) up = (tt, tt)
ascends_rises (l ∷ m ∷ ls) up = (above l m ls up.0 up.1, ascends_rises (m ∷ ls) up.1)

-- the terms of literals are in the list where each literal is of two of its terms
over_terms : (ts : List Term) (ls : List Literal) → Each (IsOver ts) ls → HasTerms ts (terms_of_cube ls)
over_terms ts [] each t has = absurd (contains_in t [] has)
over_terms ts (l ∷ ls) each t has =
    ⊎_elim
    (λ (e : l.less ≡ t). subst (Contains ts) e each.0.0)
    (⊎_elim
    (λ (e : l.more ≡ t). subst (Contains ts) e each.0.1)
    (λ (i : IsIn t (terms_of_cube ls)). over_terms ts ls each.1 t (in_contains t (terms_of_cube ls) i)))
    (contains_in t (terms_of_cube (l ∷ ls)) has)

terms_over : (ts : List Term) (ls : List Literal) → HasTerms ts (terms_of_cube ls) → Each IsLiteral ls → Each (IsOver ts) ls
terms_over ts [] has are = tt
terms_over ts (l ∷ ls) has are = (
  (has l.less (in_contains l.less (terms_of_cube (l ∷ ls)) (inl refl)), has l.more (in_contains l.more (terms_of_cube (l ∷ ls)) (inr (inl refl))), are.0),
  terms_over ts ls (λ t i. has t (in_contains t (terms_of_cube (l ∷ ls)) (inr (inr (contains_in t (terms_of_cube ls) i))))) are.1,
)

module _ (ts : List Term) (care : List (List ℕ)) (tree : Tree) where
  abbrev pub Holds : Literal → ℕ × ℕ → Type 0
  Holds l x = (bs : List ℕ) × At care x bs × (literal_holds (by_blocks ts bs) l ≡ true)

  abbrev pub Is : ℕ × ℕ → Type 0
  Is x = (bs : List ℕ) × At care x bs

  abbrev pub Wrong : ℕ × ℕ → Type 0
  Wrong x = (bs : List ℕ) × At care x bs × (answer (by_blocks ts bs) tree ≡ false)

  abbrev pub True : List Literal → ℕ × ℕ → Type 0
  True = IsTrueIn IsLessLiteral Holds Is Wrong (IsOver ts) is_few

  abbrev pub Implicant : List Literal → Type 0
  Implicant = IsImplicant IsLessLiteral Holds Is Wrong (IsOver ts) is_few

  one_at : (x : ℕ × ℕ) (bs cs : List ℕ) → At care x bs → At care x cs → bs ≡ cs
  one_at x bs cs a b = let e : Some bs ≡ Some cs = sym a.1 ∙ b.1 in cc

  pub place_of : (bs : List ℕ) → Contains care bs → (x : ℕ × ℕ) × At care x bs
  place_of bs c =
      let k = c.0 in
      let whole : 64 * (k / 64) + k % 64 ≡ k = omega arith in
      ((k / 64, k % 64), (omega arith, ap (slice_get care) whole ∙ slice_get-get_or care k bs c.1 ∙ ap Some c.2))

  pub there : (x : ℕ × ℕ) (bs : List ℕ) → At care x bs → Contains care bs
  there x bs a = (64 * x.0 + x.1, slice_get_within care (64 * x.0 + x.1) bs a.1, get_or_from_slice_get care (64 * x.0 + x.1) bs bs a.1)

  pub true_told : (c : List Literal) (x : ℕ × ℕ) (bs : List ℕ) → At care x bs → Each (λ l. Holds l x) c → cube_holds (by_blocks ts bs) c ≡ true
  true_told [] x bs a t = refl
  true_told (l ∷ c) x bs a t =
      let h = t.0 in
      and_from (literal_holds (by_blocks ts bs) l) (cube_holds (by_blocks ts bs) c)
      (subst (λ b. literal_holds (by_blocks ts b) l ≡ true) (one_at x h.0 bs h.1 a) h.2) (true_told c x bs a t.1)

  pub told_true : (c : List Literal) (x : ℕ × ℕ) (bs : List ℕ) → At care x bs → cube_holds (by_blocks ts bs) c ≡ true → Each (λ l. Holds l x) c
  told_true [] x bs a t = tt
  told_true (l ∷ c) x bs a t =
      let p = and_parts (literal_holds (by_blocks ts bs) l) (cube_holds (by_blocks ts bs) c) t in
      ((bs, a, p.0), told_true c x bs a p.1)

  -- what is true at all places is true in all configurations, and the other way round
  inside_told : (c d : List Literal) → ((x : ℕ × ℕ) → True c x → True d x) → told.IsWithin ts care tree (cube c) (cube d)
  inside_told c d inside k dflt h =
      λ t.
      let bs = get_or care k dflt in
      let x = place_of bs (Contains-get_or care k dflt h) in
      true_told d x.0 bs x.1 (inside x.0 ((bs, x.1), told_true c x.0 bs x.1 t)).1

  told_inside : (c d : List Literal) → told.IsWithin ts care tree (cube c) (cube d) → (x : ℕ × ℕ) → True c x → True d x
  told_inside c d inside x t =
      let bs = t.0.0 in
      let a = t.0.1 in
      let go = get_each (λ bs. told.IsTrueAt ts care tree (cube c) bs → told.IsTrueAt ts care tree (cube d) bs) care inside in (
        t.0,
        told_true d x bs a (each-in (λ bs. told.IsTrueAt ts care tree (cube c) bs → told.IsTrueAt ts care tree (cube d) bs) care bs go
            (contains_in bs care (there x bs a)) (true_told c x bs a t.1)),
      )

  implicant_told : (c : List Literal) → Implicant c → told.IsImplicant ts care tree (cube c)
  implicant_told c h = record {
    cube = record { literals = each_get IsLiteral c (each-weaker (IsOver ts) IsLiteral (λ l over. over.2) c h.over); order = rises_ascends c h.ordered };
    over = over_terms ts c h.over;
    few_literals = omega (arith, h.size);
    few_variables = leb-true (variable_count (cube c)) 3 h.few_variables;
    some =
        let x = h.some.0 in
        let bs = h.some.1.0.0 in
        let a = h.some.1.0.1 in
        let p = there x bs a in
        (p.0, bs, p.1, p.2, true_told c x bs a h.some.1.1);
    none = λ k d in_list t.
        let bs = get_or care k d in
        let x = place_of bs (Contains-get_or care k d in_list) in
        true_from_ne_false (answer (by_blocks ts bs) tree) (λ f. h.none x.0 ((bs, x.1), told_true c x.0 bs x.1 t) (bs, x.1, f));
  }

  told_implicant : (c : List Literal) → told.IsImplicant ts care tree (cube c) → Implicant c
  told_implicant c h = record {
    ordered = ascends_rises c h.cube.order;
    over = terms_over ts c h.over (get_each IsLiteral c h.cube.literals);
    size = omega (arith, h.few_literals);
    few_variables = le-leb (variable_count (cube c)) 3 h.few_variables;
    some =
        let s = h.some in
        let x = place_of s.1 (s.0, s.2, s.3) in
        (x.0, ((s.1, x.1), told_true c x.0 s.1 x.1 s.4));
    none = λ x t wrong.
        let bs = wrong.0 in
        let p = there x bs wrong.1 in
        let yes : answer (by_blocks ts bs) tree ≡ true =
        subst (λ b. told.IsTrueAt ts care tree (cube c) b → answer (by_blocks ts b) tree ≡ true) p.2 (h.none p.0 bs p.1) (true_told c x bs wrong.1 t.1) in
        let not_so = wrong.2 in
        absurd (cc);
  }

  in_cubes : (cubes : List (List Literal)) (c : List Literal) → IsIn c cubes → IsIn (cube c) (map cube cubes)
  in_cubes [] c i = absurd i
  in_cubes (d ∷ cubes) c i = ⊎_elim (λ (e : d ≡ c). inl (ap cube e)) (λ (j : IsIn c cubes). inr (in_cubes cubes c j)) i

  cubes_in : (cubes : List (List Literal)) (c : Cube) → IsIn c (map cube cubes) → IsIn c.literals cubes
  cubes_in [] c i = absurd i
  cubes_in (d ∷ cubes) c i = ⊎_elim (λ (e : cube d ≡ c). inl (ap (λ z. z.literals) e)) (λ (j : IsIn c (map cube cubes)). inr (cubes_in cubes c j)) i

  cubes_rise : (cubes : List (List Literal)) → Rises (Precedes IsLessLiteral) cubes → Rises IsLessCube (map cube cubes)
  cubes_rise [] up = tt
  cubes_rise (c ∷ cubes) up = (before cubes up.0, cubes_rise cubes up.1)
    where
      before : (ds : List (List Literal)) → Each (Precedes IsLessLiteral c) ds → Each (IsLessCube (cube c)) (map cube ds)
      before [] each = tt
      before (d ∷ ds) each = (less_told c d each.0, before ds each.1)

  pub are_disjuncts : (cubes : List (List Literal)) → AreChosenOf True (Precedes IsLessLiteral) Implicant cubes → AreDisjuncts ts care tree (map cube cubes)
  are_disjuncts cubes are = record {
    ordered = rises_pairs IsLessCube (map cube cubes) (cubes_rise cubes are.order);
    are = λ c. (
      (λ has.
          let w = are.widest c.literals (cubes_in cubes c (contains_in c (map cube cubes) has)) in (
            record {
              implicant = implicant_told c.literals w.0.counts;
              widest = λ d imp inside. inside_told d.literals c.literals
                  (w.0.widest d.literals (told_implicant d.literals imp) (told_inside c.literals d.literals inside));
            },
            let x = w.1.0 in
                let bs = w.1.1.0.0 in
                let a = w.1.1.0.1 in
                let p = there x bs a in (
                  p.0,
                  bs,
                  p.1,
                  p.2,
                  (
                    true_told c.literals x bs a w.1.1.1,
                    λ d in_list first t. w.1.2 d.literals (cubes_in cubes d (contains_in d (map cube cubes) in_list)) (told_less d.literals c.literals first)
                        ((bs, a), told_true d.literals x bs a t),
                  ),
                ),
          )),
      (λ h.
          let s = h.1 in
          let x = place_of s.1 (s.0, s.2, s.3) in
          in_contains c (map cube cubes) (in_cubes cubes c.literals (are.all c.literals
          (record {
            counts = told_implicant c.literals h.0.implicant;
            widest = λ d imp inside. told_inside d c.literals (h.0.widest (cube d) (implicant_told d imp) (inside_told c.literals d inside));
          }) (
            x.0,
            ((s.1, x.1), told_true c.literals x.0 s.1 x.1 s.4.0),
            λ d i first t. s.4.1 (cube d) (in_contains (cube d) (map cube cubes) (in_cubes cubes d i)) (less_told d c.literals first)
                (true_told d x.0 s.1 x.1 t.1),
          )))),
    );
  }
