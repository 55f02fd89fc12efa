-- What the search's answer says of cubes: the chosen ones are the disjuncts, and they fall short where they are not enough.
use Rattle.std.proofs.Common.{◌≡◌, ℕ, zero, suc, ◌<◌, Bool, true, false, List, [], ◌∷◌, length, get_or, map, All, Any, Contains, refl, ap, sym, subst, inl, inr, ⊎_elim, arith}
use Rattle.std.specs.Prelude.{◌⊎◌}
use Rattle.std.proofs.lemmas.List.Elements.{Contains-get_or}
use Rattle.access_paths.specs.{answer, cube_holds}
use Rattle.access_paths.specs.Trees.{Tree}
use Rattle.access_paths.specs.declared.term.Literal.{Literal}
use Rattle.access_paths.specs.declared.term.Term.{Term}
use Rattle.case_model.specs.{AreConfigurations, AreDisjuncts, FallsShort, IsConfiguration, IsTermList, by_blocks}
use Rattle.case_model.specs.Disjuncts as told
use Rattle.cube_search.specs.Cubes.{AreAsLong, Before, Counts, IsEnough, IsTail, IsTrueAt, covers}
use Rattle.cube_search.specs.Lists.{Each, IsIn}
use Rattle.cube_search.specs.Widest.{AreChosen}
use Rattle.cube_search.specs.declared.searching.Candidate.{Candidate}
use Rattle.cube_search.specs.declared.searching.Task.{Task}
use Rattle.cube_search.proofs.Lists.{each-from, each-in}
use Rattle.cube_search.proofs.Carried.{Stands}
use Rattle.cube_search.proofs.Literals.{IsTable, Precedes, chosen_literals, stands}
use Rattle.cube_cover.specs.{AreTogether, IsTaskOf, configurations_at, cube_of, cubes_of, everywhere, literals_over, none_such}
use Rattle.cube_search.specs.Truths.{IsRowOf}
use Rattle.cube_cover.proofs.Few.{cube, is_few}
use Rattle.cube_cover.proofs.Named.{contains_in, each_get, get_each, in_contains}
use Rattle.cube_cover.proofs.Order.{IsLessLiteral, same_literal, strict_literals}
use Rattle.cube_cover.proofs.Standing.{as_long, is_table, row_from, row_to}
use Rattle.cube_cover.proofs.Words.{Holds, Implicant, Is, IsOver, True, Wrong, are_disjuncts, place_of, there, told_true, true_told}

any_head : {X : Type 0} (P : X → Type 0) (x : X) (xs : List X) → P x → Any P (x ∷ xs)
any_head P x xs p = (0, x, omega arith, refl, p)

any_tail : {X : Type 0} (P : X → Type 0) (x : X) (xs : List X) → Any P xs → Any P (x ∷ xs)
any_tail P x xs a = (suc a.0, a.1, omega (arith, a.2), a.3, a.4)

-- one of the items passes, or none does
any_or_none : {X : Type 0} (p : X → Bool) (xs : List X) → Any (λ x. p x ≡ true) xs ⊎ All (λ x. ¬ (p x ≡ true)) xs
any_or_none p [] = inr (λ k d h. absurd (omega arith))
any_or_none {X} p (x ∷ xs) = by (p x) refl (any_or_none p xs)
  where
    by : (b : Bool) → p x ≡ b → Any (λ x. p x ≡ true) xs ⊎ All (λ x. ¬ (p x ≡ true)) xs → Any (λ x. p x ≡ true) (x ∷ xs) ⊎ All (λ x. ¬ (p x ≡ true)) (x ∷ xs)
    by true e rest = inl (any_head (λ x. p x ≡ true) x xs e)
    by false e rest =
        ⊎_elim
        (λ (a : Any (λ x. p x ≡ true) xs). inl (any_tail (λ x. p x ≡ true) x xs a))
        (λ (n : All (λ x. ¬ (p x ≡ true)) xs). inr (none e n))
        rest
      where
        none : p x ≡ false → All (λ x. ¬ (p x ≡ true)) xs → All (λ x. ¬ (p x ≡ true)) (x ∷ xs)
        none e n zero d h = λ t. absurd (cc)
        none e n (suc k) d h = n k d (omega arith)

-- what is so of some item, or the other of all
some_or_all : {X : Type 0} (P Q : X → Type 0) → ((x : X) → P x ⊎ Q x) → (xs : List X) → Any P xs ⊎ ((x : X) → IsIn x xs → Q x)
some_or_all P Q f [] = inr (λ x i. absurd i)
some_or_all {X} P Q f (x ∷ xs) =
    ⊎_elim
    (λ (p : P x). inl (any_head P x xs p))
    (λ (q : Q x).
    ⊎_elim
    (λ (a : Any P xs). inl (any_tail P x xs a))
    (λ (all : (y : X) → IsIn y xs → Q y). inr (λ y i. ⊎_elim (λ (e : x ≡ y). subst Q e q) (λ (j : IsIn y xs). all y j) i))
    (some_or_all P Q f xs))
    (f x)

none_passes : {X : Type 0} (P : X → Type 0) (xs : List X) → All (λ x. ¬ P x) xs → Any P xs → ⊥
none_passes P xs none a = subst (λ x. ¬ P x) a.3 (none a.0 a.1 a.2) a.4

tail_within : (from n : ℕ) (numbers : List ℕ) → IsTail from n numbers → Each (λ k. k < n) numbers
tail_within from n [] tail = tt
tail_within from n (k ∷ numbers) tail = (tail.1, tail_within (suc k) n numbers tail.2)

cubes_same : (f : Candidate → List Literal) (cs : List Candidate) → map cube (map f cs) ≡ map (λ c. cube (f c)) cs
cubes_same f [] = refl
cubes_same f (c ∷ cs) = ap (λ rest. cube (f c) ∷ rest) (cubes_same f cs)

in_map : {X Y : Type 0} (f : X → Y) (xs : List X) (x : X) → IsIn x xs → IsIn (f x) (map f xs)
in_map f [] x i = absurd i
in_map f (y ∷ xs) x i = ⊎_elim (λ (e : y ≡ x). inl (ap f e)) (λ (j : IsIn x xs). inr (in_map f xs x j)) i

of_map : {X Y : Type 0} (f : X → Y) (xs : List X) (y : Y) → IsIn y (map f xs) → (x : X) × IsIn x xs × (f x ≡ y)
of_map f [] y i = absurd i
of_map f (x ∷ xs) y i = ⊎_elim (λ (e : f x ≡ y). (x, inl refl, e)) (λ (j : IsIn y (map f xs)). let m = of_map f xs y j in (m.0, inr m.1, m.2)) i

module _ (ts : List Term) (classes : List ℕ) (is : IsTermList ts classes) (care : List (List ℕ))
    (configurations : (bs : List ℕ) → Contains care bs → IsConfiguration ts classes bs) (tree : Tree) (task : Task)
    (made : IsTaskOf ts care tree (literals_over ts classes) task) (none : List ℕ) (row : IsRowOf (everywhere false care) none)
    (chosen : List Candidate) (are : AreChosen IsTrueAt Before covers (Counts task) chosen) where
  table : IsTable IsLessLiteral (Holds ts care tree) (Is ts care tree) (Wrong ts care tree) (IsOver ts) is_few none_such (literals_over ts classes) task
  table = is_table ts classes is care configurations tree task made

  long : AreAsLong task none
  long = as_long ts classes is care configurations tree task made none row

  each : Stands IsTrueAt Before covers (Counts task) (True ts care tree) (Precedes IsLessLiteral) (Implicant ts care tree)
      (λ c. map (λ n. get_or (literals_over ts classes) n none_such) c.cube)
  each = stands IsLessLiteral (Holds ts care tree) (Is ts care tree) (Wrong ts care tree) (IsOver ts) is_few same_literal strict_literals none_such
      (literals_over ts classes) task table none long

  pub the_disjuncts : AreDisjuncts ts care tree (cubes_of (literals_over ts classes) chosen)
  the_disjuncts =
      subst (AreDisjuncts ts care tree) (cubes_same (λ c. map (λ n. get_or (literals_over ts classes) n none_such) c.cube) chosen)
      (are_disjuncts ts care tree (map (λ c. map (λ n. get_or (literals_over ts classes) n none_such) c.cube) chosen)
      (chosen_literals IsLessLiteral (Holds ts care tree) (Is ts care tree) (Wrong ts care tree) (IsOver ts) is_few same_literal strict_literals none_such
      (literals_over ts classes) task table none long chosen are))

  enough_all : IsEnough task.wanted chosen → (bs : List ℕ) → IsIn bs care → answer (by_blocks ts bs) tree ≡ true
      → Any (λ c. told.IsTrueAt ts care tree c bs) (cubes_of (literals_over ts classes) chosen)
  enough_all enough bs i so =
      let x = place_of ts care tree bs (in_contains bs care i) in
      let e = enough x.0 (row_from (λ bs. answer (by_blocks ts bs) tree) care task.wanted made.wanted x.0 bs x.1 so) in
      let t = each.to e.0 x.0 (are.widest e.0 e.1).0.counts e.2 in
      let h = true_told ts care tree (map (λ n. get_or (literals_over ts classes) n none_such) e.0.cube) x.0 bs x.1 t.1 in
      let k = in_contains (cube_of (literals_over ts classes) e.0.cube) (cubes_of (literals_over ts classes) chosen)
      (in_map (λ c. cube_of (literals_over ts classes) c.cube) chosen e.0 e.1) in
      (k.0, cube_of (literals_over ts classes) e.0.cube, k.1, k.2, h)

  all_enough : ((bs : List ℕ) → IsIn bs care → answer (by_blocks ts bs) tree ≡ true
      → Any (λ c. told.IsTrueAt ts care tree c bs) (cubes_of (literals_over ts classes) chosen)) → IsEnough task.wanted chosen
  all_enough all x set =
      let r = row_to (λ bs. answer (by_blocks ts bs) tree) care task.wanted made.wanted x set in
      let a = all r.0 (contains_in r.0 care (there ts care tree x r.0 r.1)) r.2 in
      let m = of_map (λ c. cube_of (literals_over ts classes) c.cube) chosen a.1
      (contains_in a.1 (cubes_of (literals_over ts classes) chosen) (a.0, a.2, a.3)) in
      let h : told.IsTrueAt ts care tree (cube_of (literals_over ts classes) m.0.cube) r.0 = subst (λ c. told.IsTrueAt ts care tree c r.0) (sym m.2) a.4 in (
        m.0,
        m.1,
        each.from m.0 x (are.widest m.0 m.1).0.counts
            ((r.0, r.1), told_true ts care tree (map (λ n. get_or (literals_over ts classes) n none_such) m.0.cube) x r.0 r.1 h),
      )

  pub all_together : IsEnough task.wanted chosen → AreTogether ts care tree (cubes_of (literals_over ts classes) chosen)
  all_together enough k d h = (
    (λ a. ((the_disjuncts.are a.1).0 (a.0, a.2, a.3)).0.implicant.none k d h a.4),
    (λ so. enough_all enough (get_or care k d) (contains_in (get_or care k d) care (Contains-get_or care k d h)) so),
  )

  pub falls_short : (IsEnough task.wanted chosen → ⊥) → FallsShort ts care tree (cubes_of (literals_over ts classes) chosen)
  falls_short short =
      ⊎_elim
      (λ (a : FallsShort ts care tree (cubes_of (literals_over ts classes) chosen)). a)
      (λ all. absurd (short (all_enough all)))
      (some_or_all (λ bs. (answer (by_blocks ts bs) tree ≡ true) × All (λ c. ¬ told.IsTrueAt ts care tree c bs) (cubes_of (literals_over ts classes) chosen))
      (λ bs. answer (by_blocks ts bs) tree ≡ true → Any (λ c. told.IsTrueAt ts care tree c bs) (cubes_of (literals_over ts classes) chosen))
      decide care)
    where
      decide : (bs : List ℕ)
          → ((answer (by_blocks ts bs) tree ≡ true) × All (λ c. ¬ told.IsTrueAt ts care tree c bs) (cubes_of (literals_over ts classes) chosen))
          ⊎ (answer (by_blocks ts bs) tree ≡ true → Any (λ c. told.IsTrueAt ts care tree c bs) (cubes_of (literals_over ts classes) chosen))
      decide bs = by (answer (by_blocks ts bs) tree) refl (any_or_none (λ c. cube_holds (by_blocks ts bs) c.literals) (cubes_of (literals_over ts classes) chosen))
        where
          by : (b : Bool) → answer (by_blocks ts bs) tree ≡ b
              → Any (λ c. told.IsTrueAt ts care tree c bs) (cubes_of (literals_over ts classes) chosen)
              ⊎ All (λ c. ¬ told.IsTrueAt ts care tree c bs) (cubes_of (literals_over ts classes) chosen)
              → ((answer (by_blocks ts bs) tree ≡ true) × All (λ c. ¬ told.IsTrueAt ts care tree c bs) (cubes_of (literals_over ts classes) chosen))
              ⊎ (answer (by_blocks ts bs) tree ≡ true → Any (λ c. told.IsTrueAt ts care tree c bs) (cubes_of (literals_over ts classes) chosen))
          by true e rest = ⊎_elim (λ (a : Any (λ c. told.IsTrueAt ts care tree c bs) (cubes_of (literals_over ts classes) chosen)). inr (λ so. a)) (λ n. inl (e, n)) rest
          by false e rest = inr (λ so. absurd (cc))

  -- where the cubes are together true where the tree is, they do not fall short
  pub not_short : IsEnough task.wanted chosen → ¬ FallsShort ts care tree (cubes_of (literals_over ts classes) chosen)
  not_short enough short =
      let a = enough_all enough short.1 (contains_in short.1 care (short.0, short.2, short.3)) short.4.0 in
      none_passes (λ c. told.IsTrueAt ts care tree c short.1) (cubes_of (literals_over ts classes) chosen) short.4.1 a

  -- the numbers of the chosen cubes are those of literals
  pub numbers_within : All (λ c. All (λ n. n < length (literals_over ts classes)) c.cube) chosen
  numbers_within = each_get (λ c. All (λ n. n < length (literals_over ts classes)) c.cube) chosen
      (each-from (λ c. All (λ n. n < length (literals_over ts classes)) c.cube) chosen
      (λ c i. each_get (λ n. n < length (literals_over ts classes)) c.cube
      (tail_within 0 (length (literals_over ts classes)) c.cube (subst (λ n. IsTail 0 n c.cube) table.as_many (are.widest c i).0.counts.0.tail))))

-- the configurations that numbers name are configurations
pub named_are : (ts : List Term) (classes : List ℕ) (all : List (List ℕ)) (numbers : List ℕ) → AreConfigurations ts classes all
    → All (λ k. k < length all) numbers → (bs : List ℕ) → Contains (configurations_at all numbers) bs → IsConfiguration ts classes bs
named_are ts classes all numbers whole within bs has =
    let m = of_map (λ k. get_or all k []) numbers bs (contains_in bs (configurations_at all numbers) has) in
    (whole.holds bs).0 (subst (Contains all) m.2
    (Contains-get_or all m.0 [] (each-in (λ k. k < length all) numbers m.0 (get_each (λ k. k < length all) numbers within) m.1)))
