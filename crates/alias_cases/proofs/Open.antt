-- The blocks that a term of a class may join.
use Rattle.std.proofs.Common.{◌≡◌, ℕ, zero, suc, ◌+◌, ◌<◌, ◌≤◌, max, Bool, true, false, List, [], ◌∷◌, ◌++◌, length, slice_index, arith, refl, ap, sym, subst, ◌∙◌, inl, inr, ⊎_elim, eqb-true, eq-eqb, if◌then◌else◌}
use Rattle.std.specs.Prelude.{◌⊎◌, ◌==◌}
use Rattle.std.specs.List.{AllByRecursion}
use Rattle.std.proofs.lemmas.Bool.{cases_eq}
use Rattle.case_model.specs.{AreNumbered}
use Rattle.alias_cases.specs.{open_blocks}
use Rattle.alias_cases.proofs.Arranged.{next_number}
use Rattle.alias_cases.proofs.Lists.{IsIn, Rises, each-from, each-in}

pub numbered-push : (m : ℕ) (bs : List ℕ) (b : ℕ) → AreNumbered m bs → b ≤ next_number m bs → AreNumbered m (bs ++ b ∷ [])
numbered-push m [] b numbered low = (low, tt)
numbered-push m (c ∷ bs) b numbered low = (numbered.0, numbered-push (max m (c + 1)) bs b numbered.1 low)

pub numbered-front : (m : ℕ) (bs : List ℕ) (b : ℕ) → AreNumbered m (bs ++ b ∷ []) → AreNumbered m bs × (b ≤ next_number m bs)
numbered-front m [] b numbered = (tt, numbered.0)
numbered-front m (c ∷ bs) b numbered = let rest = numbered-front (max m (c + 1)) bs b numbered.1 in ((numbered.0, rest.0), rest.1)

next-most : (m : ℕ) (bs : List ℕ) → m ≤ next_number m bs
next-most m [] = omega arith
next-most m (b ∷ bs) = omega (arith, next-most (max m (b + 1)) bs)

-- blocks have numbers below the next one
pub below-next : (m : ℕ) (bs : List ℕ) (j : ℕ) → j < length bs → slice_index bs j < next_number m bs
below-next m [] j h = absurd (omega arith)
below-next m (b ∷ bs) zero h = omega (arith, next-most (max m (b + 1)) bs)
below-next m (b ∷ bs) (suc j) h = below-next (max m (b + 1)) bs j (omega arith)

not_self : (c m : ℕ) → (c == m) ≡ false → c ≡ m → ⊥
not_self c m h e = let so : (c == m) ≡ true = eq-eqb c m e in cc

-- the next number, or that of a term of the class
abbrev pub IsOpen : ℕ → ℕ → List ℕ → List ℕ → ℕ → Type 0
IsOpen class m ks bs b = (b ≡ next_number m bs) ⊎ ((j : ℕ) × (j < length bs) × (slice_index bs j ≡ b) × (slice_index ks j ≡ class))

module _ (class : ℕ) where
  pub open-is : (m : ℕ) (ks bs : List ℕ) (b : ℕ) → length bs ≤ length ks → AreNumbered m bs → IsIn b (open_blocks class m ks bs) → IsOpen class m ks bs b
  open-is m ks [] b long numbered has = inl (⊎_elim (λ (e : m ≡ b). sym e) (λ (none : ⊥). absurd none) has)
  open-is m [] (c ∷ bs) b long numbered has = absurd (omega (arith, long))
  open-is m (k ∷ ks) (c ∷ bs) b long numbered has =
      by (c == m) refl (k == class) refl has
      (open-is (m + 1) ks bs b (omega (arith, long)))
      (open-is m ks bs b (omega (arith, long)))
    where
      lift : (x : ℕ) → max m (c + 1) ≡ x → (AreNumbered x bs → IsOpen class x ks bs b) → IsOpen class m (k ∷ ks) (c ∷ bs) b
      lift x same rest =
          ⊎_elim
          (λ (e : b ≡ next_number x bs). inl (e ∙ ap (λ y. next_number y bs) (sym same)))
          (λ (h : (j : ℕ) × (j < length bs) × (slice_index bs j ≡ b) × (slice_index ks j ≡ class)). inr (suc h.0, omega (arith, h.1), h.2, h.3))
          (rest (subst (λ y. AreNumbered y bs) same numbered.1))

      by : (p : Bool) → (c == m) ≡ p → (q : Bool) → (k == class) ≡ q
          → IsIn b (if p then (if q then c ∷ open_blocks class (m + 1) ks bs else open_blocks class (m + 1) ks bs) else open_blocks class m ks bs)
          → (AreNumbered (m + 1) bs → IsIn b (open_blocks class (m + 1) ks bs) → IsOpen class (m + 1) ks bs b)
          → (AreNumbered m bs → IsIn b (open_blocks class m ks bs) → IsOpen class m ks bs b)
          → IsOpen class m (k ∷ ks) (c ∷ bs) b
      by true e true f has more same =
          let met : c ≡ m = eqb-true c m e in
          ⊎_elim
          (λ (this : c ≡ b). inr (0, omega arith, this, eqb-true k class f))
          (λ (later : IsIn b (open_blocks class (m + 1) ks bs)). lift (m + 1) (omega (arith, met)) (λ n. more n later))
          has
      by true e false f has more same = let met : c ≡ m = eqb-true c m e in lift (m + 1) (omega (arith, met)) (λ n. more n has)
      by false e q f has more same = let other : c ≡ m → ⊥ = not_self c m e in lift m (omega (arith, numbered.0, other)) (λ n. same n has)

  pub open-has : (m : ℕ) (ks bs : List ℕ) (b : ℕ) → length bs ≤ length ks → AreNumbered m bs → m ≤ b → b ≤ next_number m bs
      → ((j : ℕ) → j < length bs → slice_index bs j ≡ b → slice_index ks j ≡ class) → IsIn b (open_blocks class m ks bs)
  open-has m ks [] b long numbered low high agree = inl (omega arith)
  open-has m [] (c ∷ bs) b long numbered low high agree = absurd (omega (arith, long))
  open-has m (k ∷ ks) (c ∷ bs) b long numbered low high agree =
      by (c == m) refl (k == class) refl
      (open-has (m + 1) ks bs b (omega (arith, long)))
      (open-has m ks bs b (omega (arith, long)))
    where
      later : (j : ℕ) → j < length bs → slice_index bs j ≡ b → slice_index ks j ≡ class
      later j h at = agree (suc j) (omega arith) at

      Rest : ℕ → Type 0
      Rest x = AreNumbered x bs → x ≤ b → b ≤ next_number x bs → ((j : ℕ) → j < length bs → slice_index bs j ≡ b → slice_index ks j ≡ class) → IsIn b (open_blocks class x ks bs)

      lift : (x : ℕ) → max m (c + 1) ≡ x → x ≤ b → Rest x → IsIn b (open_blocks class x ks bs)
      lift x same below rest = rest (subst (λ y. AreNumbered y bs) same numbered.1) below (subst (λ y. b ≤ next_number y bs) same high) later

      by : (p : Bool) → (c == m) ≡ p → (q : Bool) → (k == class) ≡ q → Rest (m + 1) → Rest m
          → IsIn b (if p then (if q then c ∷ open_blocks class (m + 1) ks bs else open_blocks class (m + 1) ks bs) else open_blocks class m ks bs)
      by true e true f more same =
          let met : c ≡ m = eqb-true c m e in
          ⊎_elim
          (λ (this : c ≡ b). inl this)
          (λ (other : c ≡ b → ⊥). inr (lift (m + 1) (omega (arith, met)) (omega (arith, met, other)) more))
          (cases_eq c b)
      by true e false f more same =
          let met : c ≡ m = eqb-true c m e in
          ⊎_elim
          (λ (this : c ≡ b). absurd (not_self k class f (agree 0 (omega arith) this)))
          (λ (other : c ≡ b → ⊥). lift (m + 1) (omega (arith, met)) (omega (arith, met, other)) more)
          (cases_eq c b)
      by false e q f more same = let other : c ≡ m → ⊥ = not_self c m e in lift m (omega (arith, numbered.0, other)) low same

  -- they rise, from this number on
  pub open-rises : (m : ℕ) (ks bs : List ℕ) → AllByRecursion (λ b. m ≤ b) (open_blocks class m ks bs) × Rises (λ x y. x < y) (open_blocks class m ks bs)
  open-rises m ks [] = ((omega arith, tt), (tt, tt))
  open-rises m [] (c ∷ bs) = ((omega arith, tt), (tt, tt))
  open-rises m (k ∷ ks) (c ∷ bs) = by (c == m) refl (k == class) (open-rises (m + 1) ks bs) (open-rises m ks bs)
    where
      Fine : List ℕ → Type 0
      Fine found = AllByRecursion (λ b. m ≤ b) found × Rises (λ x y. x < y) found

      above : (found : List ℕ) → AllByRecursion (λ b. m + 1 ≤ b) found → (x : ℕ) → x ≤ m → AllByRecursion (λ b. x < b) found
      above found each x low = each-from (λ b. x < b) found (λ b h. let up : m + 1 ≤ b = each-in (λ b. m + 1 ≤ b) found b each h in omega arith)

      from : (found : List ℕ) → AllByRecursion (λ b. m + 1 ≤ b) found → AllByRecursion (λ b. m ≤ b) found
      from found each = each-from (λ b. m ≤ b) found (λ b h. let up : m + 1 ≤ b = each-in (λ b. m + 1 ≤ b) found b each h in omega arith)

      by : (p : Bool) → (c == m) ≡ p → (q : Bool)
          → AllByRecursion (λ b. m + 1 ≤ b) (open_blocks class (m + 1) ks bs) × Rises (λ x y. x < y) (open_blocks class (m + 1) ks bs)
          → Fine (open_blocks class m ks bs)
          → Fine (if p then (if q then c ∷ open_blocks class (m + 1) ks bs else open_blocks class (m + 1) ks bs) else open_blocks class m ks bs)
      by true e true more same =
          let met : c ≡ m = eqb-true c m e in
          ((omega arith, from (open_blocks class (m + 1) ks bs) more.0), (above (open_blocks class (m + 1) ks bs) more.0 c (omega arith), more.1))
      by true e false more same = (from (open_blocks class (m + 1) ks bs) more.0, more.1)
      by false e q more same = same

  pub open-some : (m : ℕ) (ks bs : List ℕ) → 0 < length (open_blocks class m ks bs)
  open-some m ks [] = omega arith
  open-some m [] (c ∷ bs) = omega arith
  open-some m (k ∷ ks) (c ∷ bs) = by (c == m) (k == class) (open-some (m + 1) ks bs) (open-some m ks bs)
    where
      by : (p q : Bool) → 0 < length (open_blocks class (m + 1) ks bs) → 0 < length (open_blocks class m ks bs)
          → 0 < length (if p then (if q then c ∷ open_blocks class (m + 1) ks bs else open_blocks class (m + 1) ks bs) else open_blocks class m ks bs)
      by true true more same = omega arith
      by true false more same = more
      by false q more same = same
