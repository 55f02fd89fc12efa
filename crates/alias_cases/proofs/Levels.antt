-- From the configurations of the first terms to those with one term more.
use Rattle.std.proofs.Common.{◌≡◌, ℕ, suc, ◌<◌, ◌≤◌, List, [], ◌∷◌, ◌++◌, length, flat_map, Option, Some, slice_index, arith, refl, ap, sym, subst, ◌∙◌, inl, inr, ⊎_elim, length-append}
use Rattle.std.specs.Prelude.{slice_get}
use Rattle.std.specs.Cmp.Lexicographic.{slice_cmp}
use Rattle.std.specs.List.{AllByRecursion}
use Rattle.std.specs.Ordering.{nat_cmp, ordering_then}
use Rattle.std.specs.declared.cmp.Ordering.{Ordering}
use Rattle.std.specs.declared.cmp.Ordering.TheVariants.{Less, Equal, Greater}
use Rattle.std.proofs.lemmas.Cmp.{nat_cmp_total, tied_itself}
use Rattle.std.specs.Cmp.{nat_cmp_is}
use Rattle.std.proofs.lemmas.List.{length-map}
use Rattle.alias_cases.specs.{extended, fitting_blocks, next_level}
use Rattle.alias_cases.specs.declared.steps.Step.{Step}
use Rattle.alias_cases.proofs.Arranged.{IsArranged, IsBefore, IsLadder, IsLevel}
use Rattle.alias_cases.proofs.Fits.{arranged-before, arranged-fits, fits-arranged, fitting-rises, fitting-some, pushed}
use Rattle.alias_cases.proofs.Lists.{IsIn, Rises, each-from, each-in, in-cases, in-left, in-right, rises-append}

-- a number behind does not change the order of two lists as long
before-longer : (bs cs : List ℕ) (b c : ℕ) → length bs ≡ length cs → IsBefore bs cs → IsBefore (bs ++ b ∷ []) (cs ++ c ∷ [])
before-longer [] [] b c long h = absurd (cc)
before-longer [] (y ∷ cs) b c long h = absurd (omega (arith, long))
before-longer (x ∷ bs) [] b c long h = absurd (omega (arith, long))
before-longer (x ∷ bs) (y ∷ cs) b c long h = by (nat_cmp x y) h (before-longer bs cs b c (omega (arith, long)))
  where
    by : (o : Ordering) → ordering_then o (slice_cmp nat_cmp bs cs) ≡ Less → (IsBefore bs cs → IsBefore (bs ++ b ∷ []) (cs ++ c ∷ []))
        → ordering_then o (slice_cmp nat_cmp (bs ++ b ∷ []) (cs ++ c ∷ [])) ≡ Less
    by Less h rest = refl
    by Equal h rest = rest h
    by Greater h rest = absurd (cc)

last-before : (bs : List ℕ) (b c : ℕ) → b < c → IsBefore (bs ++ b ∷ []) (bs ++ c ∷ [])
last-before [] b c h = ap (λ o. ordering_then o Equal) (sym (nat_cmp_is b c Less h))
last-before (x ∷ bs) b c h = ap (λ o. ordering_then o (slice_cmp nat_cmp (bs ++ b ∷ []) (bs ++ c ∷ []))) (tied_itself nat_cmp_total x) ∙ last-before bs b c h

in-extended : (bs found : List ℕ) (x : List ℕ) → IsIn x (extended bs found) → (b : ℕ) × IsIn b found × (x ≡ bs ++ b ∷ [])
in-extended bs [] x has = absurd has
in-extended bs (b ∷ found) x has =
    ⊎_elim
    (λ (e : bs ++ b ∷ [] ≡ x). (b, inl refl, sym e))
    (λ (h : IsIn x (extended bs found)). let r = in-extended bs found x h in (r.0, inr r.1, r.2))
    has

extended-in : (bs found : List ℕ) (b : ℕ) → IsIn b found → IsIn (bs ++ b ∷ []) (extended bs found)
extended-in bs [] b has = absurd has
extended-in bs (c ∷ found) b has =
    ⊎_elim
    (λ (e : c ≡ b). inl (ap (λ x. bs ++ x ∷ []) e))
    (λ (h : IsIn b found). inr (extended-in bs found b h))
    has

extended-rises : (bs found : List ℕ) → Rises (λ x y. x < y) found → Rises IsBefore (extended bs found)
extended-rises bs [] up = tt
extended-rises bs (b ∷ found) up = (
  each-from (IsBefore (bs ++ b ∷ [])) (extended bs found) (λ x h.
      let r = in-extended bs found x h in
      subst (IsBefore (bs ++ b ∷ [])) (sym r.2) (last-before bs b r.0 (each-in (λ y. b < y) found r.0 up.0 r.1))),
  extended-rises bs found up.1,
)

-- what each of these gives is among what they give together, and nothing else is
in-all : (f : List ℕ → List ℕ) (level : List (List ℕ)) (x : List ℕ) → IsIn x (flat_map (λ bs. extended bs (f bs)) level)
    → (bs : List ℕ) × IsIn bs level × ((b : ℕ) × IsIn b (f bs) × (x ≡ bs ++ b ∷ []))
in-all f [] x has = absurd has
in-all f (bs ∷ level) x has =
    ⊎_elim
    (λ (h : IsIn x (extended bs (f bs))). (bs, inl refl, in-extended bs (f bs) x h))
    (λ (h : IsIn x (flat_map (λ bs. extended bs (f bs)) level)). let r = in-all f level x h in (r.0, inr r.1, r.2))
    (in-cases (extended bs (f bs)) (flat_map (λ bs. extended bs (f bs)) level) x has)

all-in : (f : List ℕ → List ℕ) (level : List (List ℕ)) (bs : List ℕ) (b : ℕ) → IsIn bs level → IsIn b (f bs)
    → IsIn (bs ++ b ∷ []) (flat_map (λ bs. extended bs (f bs)) level)
all-in f [] bs b has fits = absurd has
all-in f (cs ∷ level) bs b has fits =
    ⊎_elim
    (λ (e : cs ≡ bs).
    in-left (extended cs (f cs)) (flat_map (λ bs. extended bs (f bs)) level) (bs ++ b ∷ [])
    (subst (λ y. IsIn (bs ++ b ∷ []) (extended y (f y))) (sym e) (extended-in bs (f bs) b fits)))
    (λ (h : IsIn bs level). in-right (extended cs (f cs)) (flat_map (λ bs. extended bs (f bs)) level) (bs ++ b ∷ []) (all-in f level bs b h fits))
    has

all-rises : (f : List ℕ → List ℕ) → ((bs : List ℕ) → Rises (λ x y. x < y) (f bs)) → (n : ℕ) (level : List (List ℕ)) → Rises IsBefore level
    → AllByRecursion (λ bs. length bs ≡ n) level → Rises IsBefore (flat_map (λ bs. extended bs (f bs)) level)
all-rises f rises n [] up long = tt
all-rises f rises n (bs ∷ level) up long =
    rises-append IsBefore (extended bs (f bs)) (flat_map (λ bs. extended bs (f bs)) level)
    (extended-rises bs (f bs) (rises bs))
    (all-rises f rises n level up.1 long.1)
    (λ x y h i.
    let r = in-extended bs (f bs) x h in
    let q = in-all f level y i in
    let less = before-longer bs q.0 r.0 q.2.0 (long.0 ∙ sym (each-in (λ bs. length bs ≡ n) level q.0 long.1 q.1)) (each-in (IsBefore bs) level q.0 up.0 q.1) in
    subst (λ z. IsBefore z y) (sym r.2) (subst (IsBefore (bs ++ r.0 ∷ [])) (sym q.2.2) less))

-- there are no fewer of them
all-more : (f : List ℕ → List ℕ) → ((bs : List ℕ) → 0 < length (f bs)) → (level : List (List ℕ)) → length level ≤ length (flat_map (λ bs. extended bs (f bs)) level)
all-more f some [] = omega arith
all-more f some (bs ∷ level) =
    omega (arith, length-append (extended bs (f bs)) (flat_map (λ bs. extended bs (f bs)) level), length-map (f bs) (λ b. bs ++ b ∷ []), some bs, all-more f some level)

module _ (steps : List (Option Step)) (classes : List ℕ) where
  -- the only configuration of no terms
  pub first_level : IsLevel steps classes 0 ([] ∷ [])
  first_level = record {
    ordered = (tt, tt);
    are = (record { as_many = refl; numbered = tt; one_class = λ i j h k joined. absurd (omega arith); along_fields = λ k l s t h i ks lt field joined. absurd (omega arith) }, tt);
    whole = λ bs is. empty bs is.as_many;
  }
    where
      empty : (bs : List ℕ) → length bs ≡ 0 → IsIn bs ([] ∷ [])
      empty [] long = inl refl
      empty (b ∷ bs) long = absurd (omega (arith, long))

  module _ (ladder : IsLadder steps classes) where
    pub level_next : (n : ℕ) (own : Option Step) (level : List (List ℕ)) → slice_get steps n ≡ Some own → IsLevel steps classes n level
        → IsLevel steps classes (suc n) (next_level steps classes own (slice_index classes n) level)
    level_next n own level there is = record {
      ordered = all-rises f (λ bs. fitting-rises steps classes class bs own) n level is.ordered
          (each-from (λ bs. length bs ≡ n) level (λ bs h. (each-in (IsArranged steps classes n) level bs is.are h).as_many));
      are = each-from (IsArranged steps classes (suc n)) (next_level steps classes own class level) (λ x h.
          let r = in-all f level x h in
          subst (IsArranged steps classes (suc n)) (sym r.2.2)
          (fits-arranged steps classes ladder n own there r.0 r.2.0 (each-in (IsArranged steps classes n) level r.0 is.are r.1) r.2.1));
      whole = λ x was.
          let p = pushed n x was.as_many in
          let longer = subst (IsArranged steps classes (suc n)) p.is was in
          subst (λ y. IsIn y (next_level steps classes own class level)) (sym p.is)
          (all-in f level p.front p.last
          (is.whole p.front (arranged-before steps classes ladder n own there p.front p.last p.long longer))
          (arranged-fits steps classes ladder n own there p.front p.last p.long longer));
    }
      where
        class : ℕ
        class = slice_index classes n

        f : List ℕ → List ℕ
        f bs = fitting_blocks steps classes own class bs

  pub level_more : (own : Option Step) (class : ℕ) (level : List (List ℕ)) → length level ≤ length (next_level steps classes own class level)
  level_more own class level = all-more (λ bs. fitting_blocks steps classes own class bs) (λ bs. fitting-some steps classes class bs own) level
