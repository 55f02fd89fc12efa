-- No chosen cube has a literal between two classes: the cube without it is as wide and comes before.
use Rattle.std.proofs.Common.{◌≡◌, ◌≢◌, ℕ, ◌<◌, ◌≤◌, Bool, true, false, not, ◌&&◌, ◌==◌, List, [], ◌∷◌, ◌++◌, All, Contains, Option, if◌then◌else◌, length, slice_index, refl, ap, sym, subst, ◌∙◌, arith, length-append, le-leb, leb-true, ⊎_elim}
use Rattle.std.specs.Cmp.{nat_cmp_is}
use Rattle.std.specs.Cmp.Lexicographic.{slice_cmp}
use Rattle.std.specs.Ordering.{ordering_then}
use Rattle.std.specs.declared.cmp.Ordering.TheVariants.{Less}
use Rattle.std.proofs.lemmas.Bool.{eqb-true}
use Rattle.std.proofs.lemmas.Cmp.{nat_eq_equiv}
use Rattle.std.proofs.lemmas.List.Elements.{Contains-append_cases, Contains-append_left, Contains-append_right}
use Rattle.std.proofs.lemmas.Option.{get_or_from_slice_get, slice_get_within}
use Rattle.easl_model.specs.Form.{Form}
use Rattle.easl_model.proofs.Items.{zip_from}
use Rattle.access_paths.specs.{Ascend, Equals, IsCube, IsLiteral, IsLiteralOf, IsTermOf, answer, compare_cubes, compare_literals, cube_holds, literal_holds}
use Rattle.access_paths.specs.Trees.{Tree}
use Rattle.access_paths.specs.declared.term.Cube.{Cube}
use Rattle.access_paths.specs.declared.term.Literal.{Literal}
use Rattle.access_paths.specs.declared.term.Term.{Term}
use Rattle.access_paths.proofs.Members.{head_member, in_flat_map, no_member, of_flat_map, tail_member, which_member}
use Rattle.access_paths.proofs.Orders.{cubes_total, literals_total}
use Rattle.access_paths.proofs.Substituted.{all_members}
use Rattle.case_model.specs.{Adds, AreDisjuncts, HasTerms, HaveClasses, IsConfiguration, IsImplicant, IsTrueAt, IsWidest, by_blocks, place_of, terms_of_cube}
use Rattle.case_model.specs.{variable_count}
use Rattle.case_model.proofs.Terms.{found_at}
use Rattle.cube_cover.proofs.Few.{few_less}
use Rattle.cube_cover.proofs.Named.{contains_in, get_each}
use Rattle.cube_search.specs.Lists.{IsIn}

-- a list around one of its items
around : {X : Type 0} (xs : List X) (x : X) → Contains xs x → (front : List X) × (back : List X) × (xs ≡ front ++ x ∷ back)
around [] x has = absurd (no_member x has)
around (y ∷ xs) x has =
    ⊎_elim (λ (e : y ≡ x). ([], xs, ap (λ z. z ∷ xs) e))
    (λ (h : Contains xs x). let a = around xs x h in (y ∷ a.0, a.1, ap (λ l. y ∷ l) a.2)) (which_member y xs x has)

of_rest : {X : Type 0} (front back : List X) (x y : X) → Contains (front ++ back) y → Contains (front ++ x ∷ back) y
of_rest front back x y has =
    ⊎_elim (λ (h : Contains front y). Contains-append_left front (x ∷ back) y h)
    (λ (h : Contains back y). Contains-append_right front (x ∷ back) y (tail_member x back y h)) (Contains-append_cases front back y has)

ascend_rest : (front : List Literal) (l : Literal) (back : List Literal) → Ascend (front ++ l ∷ back) → Ascend (front ++ back)
ascend_rest [] l [] up = tt
ascend_rest [] l (m ∷ back) up = up.1
ascend_rest (x ∷ []) l [] up = tt
ascend_rest (x ∷ []) l (m ∷ back) up = (literals_total.trans x l m up.0 up.1.0, up.1.1)
ascend_rest (x ∷ y ∷ front) l back up = (up.0, ascend_rest (y ∷ front) l back up.1)

-- a literal that is true anyway tells nothing
holds_rest : (equal : Equals) (front : List Literal) (l : Literal) (back : List Literal) → literal_holds equal l ≡ true
    → cube_holds equal (front ++ l ∷ back) ≡ cube_holds equal (front ++ back)
holds_rest equal [] l back so = ap (λ b. b && cube_holds equal back) so
holds_rest equal (x ∷ front) l back so = ap (λ b. literal_holds equal x && b) (holds_rest equal front l back so)

first_true : (a b : Bool) → (a && b) ≡ true → a ≡ true
first_true true b h = refl
first_true false b h = absurd (cc)

second_true : (a b : Bool) → (a && b) ≡ true → b ≡ true
second_true true b h = h
second_true false b h = absurd (cc)

member_holds : (equal : Equals) (ls : List Literal) (l : Literal) → Contains ls l → cube_holds equal ls ≡ true → literal_holds equal l ≡ true
member_holds equal [] l has h = absurd (no_member l has)
member_holds equal (x ∷ ls) l has h =
    ⊎_elim (λ (e : x ≡ l). subst (λ m. literal_holds equal m ≡ true) e (first_true (literal_holds equal x) (cube_holds equal ls) h))
    (λ (in_rest : Contains ls l). member_holds equal ls l in_rest (second_true (literal_holds equal x) (cube_holds equal ls) h)) (which_member x ls l has)

pub of_all : {X : Type 0} (P : X → Type 0) (xs : List X) (x : X) → All P xs → Contains xs x → P x
of_all P xs x all has = subst P has.2 (all has.0 x has.1)

terms_rest : (front back : List Literal) (l : Literal) (t : Term) → Contains (terms_of_cube (front ++ back)) t → Contains (terms_of_cube (front ++ l ∷ back)) t
terms_rest front back l t has =
    let both : Literal → List Term = λ m. m.less ∷ m.more ∷ [] in
    let of = of_flat_map both (front ++ back) t has in
    in_flat_map both (front ++ l ∷ back) of.0 t (of_rest front back l of.0 of.1) of.2

module _ (form : Form) (variables : List (Option ℕ)) (ts : List Term) (classes : List ℕ) (typed : HaveClasses form variables ts classes) where
  -- a term of the list, with its place and class
  record Placed (t : Term) : Type 0 where
    within : place_of ts t < length ts
    class : ℕ
    at : slice_index classes (place_of ts t) ≡ class
    is : IsTermOf form variables t class

  placed : (t : Term) → Contains ts t → Placed t
  placed t has =
      let at = found_at ts t has in
      let of = zip_from (IsTermOf form variables) ts classes (place_of ts t) t typed at in
      record { within = slice_get_within ts (place_of ts t) t at; class = of.0; at = get_or_from_slice_get classes (place_of ts t) of.0 0 of.1; is = of.2 }

  -- terms of two classes are in no block together
  apart : (bs : List ℕ) (t u : Term) (p : Placed t) (q : Placed u) → IsConfiguration ts classes bs → p.class ≢ q.class → by_blocks ts bs t u ≡ false
  apart bs t u p q is differ = by (by_blocks ts bs t u) refl
    where
      by : (b : Bool) → by_blocks ts bs t u ≡ b → b ≡ false
      by true e =
          absurd (differ (sym p.at
          ∙ is.one_class (place_of ts t) (place_of ts u) p.within q.within
          (eqb-true (slice_index bs (place_of ts t)) (slice_index bs (place_of ts u)) e) ∙ q.at))
      by false e = refl

  module _ (care : List (List ℕ)) (are : (bs : List ℕ) → Contains care bs → IsConfiguration ts classes bs) (tree : Tree) (cubes : List Cube)
      (chosen : AreDisjuncts ts care tree cubes) where
    -- Below, the literal of a chosen cube is between two classes.
    module _ (c : Cube) (has : Contains cubes c) (l : Literal) (in_c : Contains c.literals l) (p : Placed l.less) (q : Placed l.more)
        (differ : p.class ≢ q.class) where
      abbrev of : IsWidest ts care tree c × Adds ts care tree cubes c
      of = (chosen.are c).0 has

      abbrev parts : (front : List Literal) × (back : List Literal) × (c.literals ≡ front ++ l ∷ back)
      parts = around c.literals l in_c

      abbrev d : Cube
      d = record { literals = parts.0 ++ parts.1 }

      true_there : (bs : List ℕ) → Contains care bs → literal_holds (by_blocks ts bs) l ≡ true
      true_there bs there = by l.same refl
        where
          equal : by_blocks ts bs l.less l.more ≡ false
          equal = apart bs l.less l.more p q (are bs there) differ

          by : (same : Bool) → l.same ≡ same → literal_holds (by_blocks ts bs) l ≡ true
          by true e =
              let some = of.0.implicant.some in
              let holds : literal_holds (by_blocks ts some.1) l ≡ true = member_holds (by_blocks ts some.1) c.literals l in_c some.4 in
              let not_equal : by_blocks ts some.1 l.less l.more ≡ false =
              apart some.1 l.less l.more p q (are some.1 (some.0, some.2, some.3)) differ in
              let fails : literal_holds (by_blocks ts some.1) l ≡ false =
              ap (λ b. if b then by_blocks ts some.1 l.less l.more else not (by_blocks ts some.1 l.less l.more)) e ∙ not_equal in
              absurd (cc)
          by false e =
              ap (λ b. if b then by_blocks ts bs l.less l.more else not (by_blocks ts bs l.less l.more)) e ∙ ap not equal

      same_truth : (bs : List ℕ) → Contains care bs → cube_holds (by_blocks ts bs) c.literals ≡ cube_holds (by_blocks ts bs) d.literals
      same_truth bs there = ap (cube_holds (by_blocks ts bs)) parts.2 ∙ holds_rest (by_blocks ts bs) parts.0 l parts.1 (true_there bs there)

      d_from : (bs : List ℕ) → Contains care bs → IsTrueAt ts care tree d bs → IsTrueAt ts care tree c bs
      d_from bs there h = same_truth bs there ∙ h

      d_to : (bs : List ℕ) → Contains care bs → IsTrueAt ts care tree c bs → IsTrueAt ts care tree d bs
      d_to bs there h = sym (same_truth bs there) ∙ h

      in_d : (m : Literal) → Contains d.literals m → Contains c.literals m
      in_d m h = subst (λ ls. Contains ls m) (sym parts.2) (of_rest parts.0 parts.1 l m h)

      fewer : length d.literals < length c.literals
      fewer = omega (arith, ap length parts.2, length-append parts.0 (l ∷ parts.1), length-append parts.0 parts.1)

      d_cube : IsCube d
      d_cube = record {
        literals = all_members IsLiteral d.literals (λ m h. of_all IsLiteral c.literals m of.0.implicant.cube.literals (in_d m h));
        order = ascend_rest parts.0 l parts.1 (subst Ascend parts.2 of.0.implicant.cube.order);
      }

      d_over : HasTerms ts (terms_of_cube d.literals)
      d_over t h = of.0.implicant.over t (subst (λ ls. Contains (terms_of_cube ls) t) (sym parts.2) (terms_rest parts.0 parts.1 l t h))

      d_few : variable_count d ≤ 3
      d_few =
          leb-true (variable_count d) 3
          (few_less d.literals c.literals
          (get_each (λ m. IsIn m c.literals) d.literals (all_members (λ m. IsIn m c.literals) d.literals (λ m h. contains_in m c.literals (in_d m h))))
          (le-leb (variable_count c) 3 of.0.implicant.few_variables))

      d_implicant : IsImplicant ts care tree d
      d_implicant =
          let some = of.0.implicant.some in
          record {
            cube = d_cube;
            over = d_over;
            few_literals = omega (arith, fewer, of.0.implicant.few_literals);
            few_variables = d_few;
            some = (some.0, some.1, some.2, some.3, d_to some.1 (some.0, some.2, some.3) some.4);
            none = all_members (λ bs. IsTrueAt ts care tree d bs → answer (by_blocks ts bs) tree ≡ true) care
                (λ bs there h.
                of_all (λ x. IsTrueAt ts care tree c x → answer (by_blocks ts x) tree ≡ true) care bs of.0.implicant.none there (d_from bs there h));
          }

      d_widest : IsWidest ts care tree d
      d_widest = record {
        implicant = d_implicant;
        widest = λ e implicant within.
            let back = of.0.widest e implicant
            (all_members (λ bs. IsTrueAt ts care tree c bs → IsTrueAt ts care tree e bs) care
            (λ bs there h. of_all (λ x. IsTrueAt ts care tree d x → IsTrueAt ts care tree e x) care bs within there (d_to bs there h))) in
            all_members (λ bs. IsTrueAt ts care tree e bs → IsTrueAt ts care tree d bs) care
            (λ bs there h. d_to bs there (of_all (λ x. IsTrueAt ts care tree e x → IsTrueAt ts care tree c x) care bs back there h));
      }

      before : compare_cubes d c ≡ Less
      before =
          ap (λ o. ordering_then o (slice_cmp compare_literals d.literals c.literals))
          (sym (nat_cmp_is (length d.literals) (length c.literals) Less fewer))

      never : ⊥
      never =
          let adds = of.1 in
          let there : Contains care adds.1 = (adds.0, adds.2, adds.3) in
          let d_there = d_to adds.1 there adds.4.0 in
          let d_adds : Adds ts care tree cubes d =
          (adds.0, adds.1, adds.2, adds.3, (d_there, λ e in_e first. adds.4.1 e in_e (cubes_total.trans e d c first before))) in
          adds.4.1 d ((chosen.are d).1 (d_widest, d_adds)) before d_there

    -- each literal of a chosen cube is of one class
    pub one_class : (c : Cube) → Contains cubes c → (l : Literal) → Contains c.literals l → IsLiteralOf form variables l
    one_class c has l in_c =
        let both : Literal → List Term = λ m. m.less ∷ m.more ∷ [] in
        let over = ((chosen.are c).0 has).0.implicant.over in
        let p = placed l.less (over l.less (in_flat_map both c.literals l l.less in_c (head_member l.less (l.more ∷ [])))) in
        let q = placed l.more (over l.more (in_flat_map both c.literals l l.more in_c (tail_member l.less (l.more ∷ []) l.more (head_member l.more [])))) in
        by p q (p.class == q.class) refl
      where
        by : (p : Placed l.less) (q : Placed l.more) (b : Bool) → (p.class == q.class) ≡ b → IsLiteralOf form variables l
        by p q true e =
            let same : p.class ≡ q.class = eqb-true p.class q.class e in
            record { class = p.class; less = p.is; more = subst (IsTermOf form variables l.more) (sym same) q.is }
        by p q false e =
            absurd (never c has l in_c p q
            (λ (same : p.class ≡ q.class). let yes : (p.class == q.class) ≡ true = ap (λ n. p.class == n) (sym same) ∙ nat_eq_equiv.refl p.class in cc))
