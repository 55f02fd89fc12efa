-- What a search keeps, in general: items that are as wide as one another or not, some of which count, in an order.
use Rattle.std.proofs.Common.{◌≡◌, Bool, true, false, not, cond, List, [], ◌∷◌, ◌++◌, filter, refl, ap, sym, subst, ◌∙◌, inl, inr, ⊎_elim, append_assoc, append-nil}
use Rattle.std.specs.Prelude.{◌⊎◌}
use Rattle.std.specs.List.{list_any}
use Rattle.std.proofs.lemmas.Bool.{not-true, cases_Bool}
use Rattle.cube_search.specs.Lists.{Each, IsIn, Rises}
use Rattle.cube_search.proofs.Lists.{each-in, each-from, each-weaker, each-append, in-left, in-right, in-cases, each-filter, in-filter, rises-filter, rises-append, any-in, none-in}

-- a reflexive and transitive test, as `is_within`
pub record IsPreorder {Q : Type 0} (within : Q → Q → Bool) : Type 0 where
  pub itself : (c : Q) → within c c ≡ true
  pub along : (c d e : Q) → within c d ≡ true → within d e ≡ true → within c e ≡ true

-- one item, or one that comes before it
abbrev pub IsAtMost : {Q : Type 0} → (Q → Q → Type 0) → Q → Q → Type 0
IsAtMost Before c d = (c ≡ d) ⊎ Before c d

-- k is at least as wide as c, and if c is as wide too, k comes no later
abbrev pub Represents : {Q : Type 0} → (Q → Q → Bool) → (Q → Q → Type 0) → Q → Q → Type 0
Represents within Before k c = (within c k ≡ true) × (within k c ≡ true → IsAtMost Before k c)

abbrev pub AreApart : {Q : Type 0} → (Q → Q → Bool) → Q → Q → Type 0
AreApart within c d = (within c d ≡ false) × (within d c ≡ false)

module _ {Q : Type 0} (within : Q → Q → Bool) (takes : Q → Bool) where
  -- those that c does not take the place of
  abbrev pub left_by : Q → List Q → List Q
  left_by c kept = filter (λ k. not (within k c)) kept

  abbrev pub offer : Q → List Q → List Q
  offer c kept = cond (list_any (λ k. within c k) kept) kept (filter (λ k. not (within k c)) kept ++ c ∷ [])

  abbrev pub consider : Q → List Q → List Q
  consider c kept = cond (takes c) (offer c kept) kept

  abbrev pub keep : List Q → List Q → List Q
  keep [] kept = kept
  keep (c ∷ cs) kept = keep cs (consider c kept)

  module _ (Before : Q → Q → Type 0) where
    -- Of these items that were gone through, the widest are kept.
    pub record IsGood (done kept : List Q) : Type 0 where
      pub from : Each (λ k. IsIn k done × (takes k ≡ true)) kept
      pub covers : (c : Q) → IsIn c done → takes c ≡ true → (k : Q) × IsIn k kept × Represents within Before k c
      pub apart : Rises (AreApart within) kept
      pub order : Rises Before kept

    module _ (pre : IsPreorder within) where
      -- one more item, which comes after all that were gone through
      good_next : (done kept : List Q) (c : Q) → IsGood done kept → Each (λ d. Before d c) done → IsGood (done ++ c ∷ []) (consider c kept)
      good_next done kept c good last = by (takes c) refl
        where
          earlier : Each (λ k. IsIn k (done ++ c ∷ []) × (takes k ≡ true)) kept
          earlier = each-weaker (λ k. IsIn k done × (takes k ≡ true)) (λ k. IsIn k (done ++ c ∷ []) × (takes k ≡ true))
              (λ k h. (in-left done (c ∷ []) k h.0, h.1)) kept good.from

          -- where one that is kept is as wide
          old : (k : Q) → IsIn k kept → within c k ≡ true → takes c ≡ true → IsGood (done ++ c ∷ []) kept
          old k has wide taken = record {
            from = earlier;
            covers = λ d is counts.
                ⊎_elim
                (λ (i : IsIn d done). good.covers d i counts)
                (λ (i : IsIn d (c ∷ [])).
                ⊎_elim
                (λ (e : c ≡ d). (
                  k,
                  has,
                  (
                    subst (λ z. within z k ≡ true) e wide,
                    λ same. inr
                        (subst (λ z. Before k z) e
                        (each-in (λ z. Before z c) done k last (each-in (λ z. IsIn z done × (takes z ≡ true)) kept k good.from has).0)),
                  ),
                ))
                (λ (n : ⊥). absurd n)
                i)
                (in-cases done (c ∷ []) d is);
            apart = good.apart;
            order = good.order;
          }

          -- where none is
          new : Each (λ k. within c k ≡ false) kept → takes c ≡ true → IsGood (done ++ c ∷ []) (filter (λ k. not (within k c)) kept ++ c ∷ [])
          new none taken = record {
            from = each-append (λ k. IsIn k (done ++ c ∷ []) × (takes k ≡ true)) (left_by c kept) (c ∷ [])
                (each-weaker (λ k. (IsIn k (done ++ c ∷ []) × (takes k ≡ true)) × (not (within k c) ≡ true)) (λ k. IsIn k (done ++ c ∷ []) × (takes k ≡ true))
                (λ k h. h.0) (left_by c kept) (each-filter (λ k. IsIn k (done ++ c ∷ []) × (takes k ≡ true)) (λ k. not (within k c)) kept earlier))
                ((in-right done (c ∷ []) c (inl refl), taken), tt);
            covers = λ d is counts.
                ⊎_elim
                (λ (i : IsIn d done). still d (good.covers d i counts))
                (λ (i : IsIn d (c ∷ [])).
                ⊎_elim
                (λ (e : c ≡ d). (c, in-right (left_by c kept) (c ∷ []) c (inl refl), (subst (λ z. within z c ≡ true) e (pre.itself c), λ same. inl e)))
                (λ (n : ⊥). absurd n)
                i)
                (in-cases done (c ∷ []) d is);
            apart = rises-append (AreApart within) (left_by c kept) (c ∷ []) (rises-filter (AreApart within) (λ k. not (within k c)) kept good.apart) (tt, tt) (
              each-weaker (λ k. (within c k ≡ false) × (not (within k c) ≡ true)) (λ k. AreApart within k c) (λ k h. (not-true (within k c) h.1, h.0))
                  (left_by c kept) (each-filter (λ k. within c k ≡ false) (λ k. not (within k c)) kept none),
              tt,
            );
            order = rises-append Before (left_by c kept) (c ∷ []) (rises-filter Before (λ k. not (within k c)) kept good.order) (tt, tt) (
              each-weaker (λ k. (IsIn k done × (takes k ≡ true)) × (not (within k c) ≡ true)) (λ k. Before k c)
                  (λ k h. each-in (λ z. Before z c) done k last h.0.0) (left_by c kept)
                  (each-filter (λ k. IsIn k done × (takes k ≡ true)) (λ k. not (within k c)) kept good.from),
              tt,
            );
          }
            where
              still : (d : Q) → ((k : Q) × IsIn k kept × Represents within Before k d)
                  → (k : Q) × IsIn k (filter (λ k. not (within k c)) kept ++ c ∷ []) × Represents within Before k d
              still d k =
                  ⊎_elim
                  (λ (h : within k.0 c ≡ true). (
                    c,
                    in-right (filter (λ k. not (within k c)) kept) (c ∷ []) c (inl refl),
                    (
                      pre.along d k.0 c k.2.0 h,
                      λ back. absurd (let f : within c k.0 ≡ false = each-in (λ z. within c z ≡ false) kept k.0 none k.1 in let t : within c k.0 ≡ true =
                          pre.along c d k.0 back k.2.0 in cc),
                    ),
                  ))
                  (λ (h : within k.0 c ≡ false).
                  (k.0, in-left (filter (λ k. not (within k c)) kept) (c ∷ []) k.0 (in-filter (λ k. not (within k c)) kept k.0 k.1 (ap not h)), k.2))
                  (cases_Bool (within k.0 c))

          offered : (b : Bool) → list_any (λ k. within c k) kept ≡ b → takes c ≡ true
              → IsGood (done ++ c ∷ []) (cond b kept (filter (λ k. not (within k c)) kept ++ c ∷ []))
          offered true e taken = let k = any-in (λ k. within c k) kept e in old k.0 k.1 k.2 taken
          offered false e taken = new (none-in (λ k. within c k) kept e) taken

          by : (b : Bool) → takes c ≡ b → IsGood (done ++ c ∷ []) (cond b (offer c kept) kept)
          by true e = offered (list_any (λ k. within c k) kept) refl e
          by false e = record {
            from = earlier;
            covers = λ d is counts.
                ⊎_elim
                (λ (i : IsIn d done). good.covers d i counts)
                (λ (i : IsIn d (c ∷ [])). ⊎_elim (λ (s : c ≡ d). absurd (let t : takes c ≡ true = ap takes s ∙ counts in cc)) (λ (n : ⊥). absurd n) i)
                (in-cases done (c ∷ []) d is);
            apart = good.apart;
            order = good.order;
          }

      -- all items of a list that rises
      pub good_all : (done kept cs : List Q) → IsGood done kept → Each (λ c. Each (λ d. Before d c) done) cs → Rises Before cs
          → IsGood (done ++ cs) (keep cs kept)
      good_all done kept [] good after up = subst (λ l. IsGood l kept) (sym (append-nil done)) good
      good_all done kept (c ∷ cs) good after up =
          subst (λ l. IsGood l (keep (c ∷ cs) kept)) (append_assoc done (c ∷ []) cs)
          (good_all (done ++ c ∷ []) (consider c kept) cs (good_next done kept c good after.0)
          (each-both cs after.1 up.0) up.1)
        where
          each-both : (es : List Q) → Each (λ e. Each (λ d. Before d e) done) es → Each (Before c) es → Each (λ e. Each (λ d. Before d e) (done ++ c ∷ [])) es
          each-both [] a b = tt
          each-both (e ∷ es) a b = (each-append (λ d. Before d e) done (c ∷ []) a.0 (b.0, tt), each-both es a.1 b.1)

      pub good_from_none : (cs : List Q) → Rises Before cs → IsGood cs (keep cs [])
      good_from_none cs up = good_all [] [] cs (record { from = tt; covers = λ c h t. absurd h; apart = tt; order = tt })
          (each-from (λ c. Each (λ d. Before d c) []) cs (λ c h. tt)) up
