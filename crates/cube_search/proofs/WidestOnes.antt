-- From what a search keeps to the widest items, and to the choice among them.
use Rattle.std.proofs.Common.{◌≡◌, Bool, true, false, cond, List, [], ◌∷◌, ◌++◌, refl, sym, subst, ◌∙◌, inl, inr, ⊎_elim, append_assoc, append-nil}
use Rattle.std.specs.Prelude.{◌⊎◌}
use Rattle.cube_search.specs.Lists.{Each, IsIn, Rises}
use Rattle.cube_search.proofs.Lists.{each-in, each-append, in-left, in-right, in-cases, rises-before, rises-after, rises-without, rises-two}
use Rattle.cube_search.specs.Widest.{IsWidest, Adds, AreChosen}
use Rattle.cube_search.proofs.Kept.{IsPreorder, IsAtMost, Represents, AreApart}

-- these represent all that count
pub record AreWidest {Q : Type 0} (within : Q → Q → Bool) (Before : Q → Q → Type 0) (Counts : Q → Type 0) (kept : List Q) : Type 0 where
  pub count : (k : Q) → IsIn k kept → Counts k
  pub represent : (c : Q) → Counts c → (k : Q) × IsIn k kept × Represents within Before k c
  pub apart : Rises (AreApart within) kept
  pub order : Rises Before kept

module _ {Q : Type 0} (within : Q → Q → Bool) (Before : Q → Q → Type 0) (Counts : Q → Type 0) where
  module _ (pre : IsPreorder within) (kept : List Q) (all : AreWidest within Before Counts kept) where
    pub kept_widest : (k : Q) → IsIn k kept → IsWidest within Counts k
    kept_widest k has = record {
      counts = all.count k has;
      widest = λ d counts wide.
          let r = all.represent d counts in
          ⊎_elim
          (λ (e : k ≡ r.0). subst (λ z. within d z ≡ true) (sym e) r.2.0)
          (⊎_elim
          (λ (a : AreApart within k r.0). absurd (let t = pre.along k d r.0 wide r.2.0 in let f = a.0 in cc))
          (λ (a : AreApart within r.0 k). absurd (let t = pre.along k d r.0 wide r.2.0 in let f = a.1 in cc)))
          (rises-two (AreApart within) kept k r.0 all.apart has r.1);
    }

    -- each widest one has one that is kept and is as wide, no later
    pub record Keeps (c : Q) : Type 0 where
      pub kept_one : Q
      pub has : IsIn kept_one kept
      pub wide : within c kept_one ≡ true
      pub same : within kept_one c ≡ true
      pub first : IsAtMost Before kept_one c

    pub widest_kept : (c : Q) → IsWidest within Counts c → Keeps c
    widest_kept c w =
        let r = all.represent c w.counts in
        let s = w.widest r.0 (all.count r.0 r.1) r.2.0 in
        record { kept_one = r.0; has = r.1; wide = r.2.0; same = s; first = r.2.1 s }

-- The choice: items are true at cases, `adds` tells whether one is true at a case where none of some others is.
-- The items are fit for the test.
pub record Tells {Q C : Type 0} (True : Q → C → Type 0) (adds : List Q → Q → Bool) (Fit : Q → Type 0) : Type 0 where
  pub yes : (chosen : List Q) (c : Q) → Each Fit chosen → Fit c → adds chosen c ≡ true → (x : C) × True c x × Each (λ d. True d x → ⊥) chosen
  pub no : (chosen : List Q) (c : Q) (x : C) → adds chosen c ≡ false → True c x → (d : Q) × IsIn d chosen × True d x

-- those that add to the ones chosen before, in order
abbrev pub choose_from : {Q : Type 0} → (List Q → Q → Bool) → List Q → List Q → List Q
choose_from adds chosen [] = chosen
choose_from adds chosen (c ∷ cs) = cond (adds chosen c) (choose_from adds (chosen ++ c ∷ []) cs) (choose_from adds chosen cs)

-- what is chosen is what was chosen before and some of those that are gone through
abbrev pub Later : {Q : Type 0} → (List Q → Q → Bool) → List Q → List Q → Type 0
Later {Q} adds chosen cs = (more : List Q) × (choose_from adds chosen cs ≡ chosen ++ more) × ((d : Q) → IsIn d more → IsIn d cs)

-- one of these is true at the case, and comes no later
abbrev pub Covered : {Q C : Type 0} → (Q → C → Type 0) → (Q → Q → Type 0) → List Q → Q → C → Type 0
Covered {Q} True Before chosen c x = (d : Q) × IsIn d chosen × True d x × IsAtMost Before d c

module _ {Q C : Type 0} (True : Q → C → Type 0) (adds : List Q → Q → Bool) (Fit : Q → Type 0) (tells : Tells True adds Fit) (Before : Q → Q → Type 0)
    (asym : (c d : Q) → Before c d → Before d c → ⊥) where
  -- what is chosen later comes later
  pub later : (chosen cs : List Q) → Later adds chosen cs
  later chosen [] = ([], sym (append-nil chosen), λ d h. h)
  later chosen (c ∷ cs) = by (adds chosen c) (later (chosen ++ c ∷ []) cs) (later chosen cs)
    where
      by : (b : Bool) → Later adds (chosen ++ c ∷ []) cs → Later adds chosen cs
          → (more : List Q) × (cond b (choose_from adds (chosen ++ c ∷ []) cs) (choose_from adds chosen cs) ≡ chosen ++ more) × ((d : Q) → IsIn d more
          → IsIn d (c ∷ cs))
      by true r s = (
        c ∷ r.0,
        r.1 ∙ append_assoc chosen (c ∷ []) r.0,
        λ d h. ⊎_elim (λ (e : c ≡ d). inl e) (λ (i : IsIn d r.0). inr (r.2 d i)) h,
      )
      by false s r = (r.0, r.1, λ d h. inr (r.2 d h))

  -- an item that is chosen was chosen before, or is gone through
  pub chosen-cases : (chosen cs : List Q) (d : Q) → IsIn d (choose_from adds chosen cs) → IsIn d chosen ⊎ IsIn d cs
  chosen-cases chosen cs d has =
      let r = later chosen cs in
      ⊎_elim (λ (i : IsIn d chosen). inl i) (λ (i : IsIn d r.0). inr (r.2 d i)) (in-cases chosen r.0 d (subst (IsIn d) r.1 has))

  pub still-chosen : (chosen cs : List Q) (d : Q) → IsIn d chosen → IsIn d (choose_from adds chosen cs)
  still-chosen chosen cs d has = let r = later chosen cs in subst (IsIn d) (sym r.1) (in-left chosen r.0 d has)

  pub rises-chosen : (chosen cs : List Q) → Rises Before (chosen ++ cs) → Rises Before (choose_from adds chosen cs)
  rises-chosen chosen [] up = subst (Rises Before) (append-nil chosen) up
  rises-chosen chosen (c ∷ cs) up =
      by (adds chosen c) (rises-chosen (chosen ++ c ∷ []) cs (subst (Rises Before) (sym (append_assoc chosen (c ∷ []) cs)) up))
      (rises-chosen chosen cs (rises-without Before chosen c cs up))
    where
      by : (b : Bool) → Rises Before (choose_from adds (chosen ++ c ∷ []) cs) → Rises Before (choose_from adds chosen cs)
          → Rises Before (cond b (choose_from adds (chosen ++ c ∷ []) cs) (choose_from adds chosen cs))
      by true r s = r
      by false r s = s

  -- wherever an item that was gone through is true, one is that was chosen and comes no later
  pub covered : (chosen cs : List Q) → Rises Before (chosen ++ cs) → (c : Q) (x : C) → IsIn c cs → True c x
      → Covered True Before (choose_from adds chosen cs) c x
  covered chosen [] up c x has t = absurd has
  covered chosen (e ∷ es) up c x has t =
      by (adds chosen e) refl
      (λ i. covered (chosen ++ e ∷ []) es (subst (Rises Before) (sym (append_assoc chosen (e ∷ []) es)) up) c x i t)
      (λ i. covered chosen es (rises-without Before chosen e es up) c x i t)
    where
      by : (b : Bool) → adds chosen e ≡ b → (IsIn c es → Covered True Before (choose_from adds (chosen ++ e ∷ []) es) c x)
          → (IsIn c es → Covered True Before (choose_from adds chosen es) c x)
          → (d : Q) × IsIn d (cond b (choose_from adds (chosen ++ e ∷ []) es) (choose_from adds chosen es)) × True d x × IsAtMost Before d c
      by true a r1 r2 =
          ⊎_elim
          (λ (s : e ≡ c). (c, still-chosen (chosen ++ e ∷ []) es c (in-right chosen (e ∷ []) c (inl s)), t, inl refl))
          r1
          has
      by false a r1 r2 =
          ⊎_elim
          (λ (s : e ≡ c).
          let d = tells.no chosen e x a (subst (λ z. True z x) (sym s) t) in (
            d.0,
            still-chosen chosen es d.0 d.1,
            d.2,
            inr
                (subst (Before d.0) s (each-in (λ z. Before z e) chosen d.0 (rises-before Before chosen e es up) d.1)),
          ))
          r2
          has

  -- an item that is chosen adds to all that are chosen
  pub chosen_adds : (chosen cs : List Q) → Each Fit chosen → Each Fit cs → Rises Before (chosen ++ cs) → (c : Q) → IsIn c cs
      → IsIn c (choose_from adds chosen cs) → Adds True Before (choose_from adds chosen cs) c
  chosen_adds chosen [] fit fits up c has is = absurd has
  chosen_adds chosen (e ∷ es) fit fits up c has is =
      by (adds chosen e) refl
      (λ i j. chosen_adds (chosen ++ e ∷ []) es (each-append Fit chosen (e ∷ []) fit (fits.0, tt)) fits.1
      (subst (Rises Before) (sym (append_assoc chosen (e ∷ []) es)) up) c i j)
      (λ i j. chosen_adds chosen es fit fits.1 (rises-without Before chosen e es up) c i j)
      is
    where
      -- the item that is gone through first
      here : adds chosen e ≡ true → Adds True Before (choose_from adds (chosen ++ e ∷ []) es) e
      here a =
          let y = tells.yes chosen e fit fits.0 a in (
            y.0,
            y.1,
            λ d in_all first true_at.
                ⊎_elim
                (λ (i : IsIn d (chosen ++ e ∷ [])).
                ⊎_elim
                (λ (j : IsIn d chosen). each-in (λ z. True z y.0 → ⊥) chosen d y.2 j true_at)
                (λ (j : IsIn d (e ∷ [])). ⊎_elim (λ (s : e ≡ d). asym d d (subst (Before d) s first) (subst (Before d) s first)) (λ (n : ⊥). n) j)
                (in-cases chosen (e ∷ []) d i))
                (λ (i : IsIn d es). asym d e first (each-in (Before e) es d (rises-after Before chosen e es up) i))
                (chosen-cases (chosen ++ e ∷ []) es d in_all),
          )

      -- it is not there where it was not chosen
      never : IsIn e (choose_from adds chosen es) → ⊥
      never i =
          let self : Before e e = ⊎_elim
          (λ (j : IsIn e chosen). each-in (λ z. Before z e) chosen e (rises-before Before chosen e es up) j)
          (λ (j : IsIn e es). each-in (Before e) es e (rises-after Before chosen e es up) j)
          (chosen-cases chosen es e i) in
          asym e e self self

      by : (b : Bool) → adds chosen e ≡ b
          → (IsIn c es → IsIn c (choose_from adds (chosen ++ e ∷ []) es) → Adds True Before (choose_from adds (chosen ++ e ∷ []) es) c)
          → (IsIn c es → IsIn c (choose_from adds chosen es) → Adds True Before (choose_from adds chosen es) c)
          → IsIn c (cond b (choose_from adds (chosen ++ e ∷ []) es) (choose_from adds chosen es))
          → Adds True Before (cond b (choose_from adds (chosen ++ e ∷ []) es) (choose_from adds chosen es)) c
      by true a r1 r2 i =
          ⊎_elim
          (λ (s : e ≡ c). subst (Adds True Before (choose_from adds (chosen ++ e ∷ []) es)) s (here a))
          (λ (j : IsIn c es). r1 j i)
          has
      by false a r1 r2 i =
          ⊎_elim
          (λ (s : e ≡ c). absurd (never (subst (λ z. IsIn z (choose_from adds chosen es)) (sym s) i)))
          (λ (j : IsIn c es). r2 j i)
          has

  -- an item that adds to all that are chosen is chosen, where it is gone through
  pub adds_chosen : (cs : List Q) → Rises Before cs → (c : Q) → IsIn c cs → Adds True Before (choose_from adds [] cs) c → IsIn c (choose_from adds [] cs)
  adds_chosen cs up c has more =
      let d = covered [] cs up c more.0 has more.1 in
      ⊎_elim
      (λ (e : d.0 ≡ c). subst (λ z. IsIn z (choose_from adds [] cs)) e d.1)
      (λ (b : Before d.0 c). absurd (more.2 d.0 d.1 b d.2))
      d.3

-- The whole: what is chosen among the widest that are kept is what is chosen among all that are widest.
module _ {Q C : Type 0} (True : Q → C → Type 0) (adds : List Q → Q → Bool) (Fit : Q → Type 0) (tells : Tells True adds Fit) (Before : Q → Q → Type 0)
    (asym : (c d : Q) → Before c d → Before d c → ⊥)
    (trans : (c d e : Q) → Before c d → Before d e → Before c e) (within : Q → Q → Bool) (Counts : Q
    → Type 0) (pre : IsPreorder within) (wide : (c d : Q) (x : C) → Counts c → Counts d → within c d ≡ true → True c x → True d x) where
  pub are_chosen : (kept : List Q) → Each Fit kept → AreWidest within Before Counts kept → AreChosen True Before within Counts (choose_from adds [] kept)
  are_chosen kept fits are = record {
    order = rises-chosen True adds Fit tells Before asym [] kept are.order;
    widest = λ c has.
        let i : IsIn c kept = ⊎_elim (λ (n : ⊥). absurd n) (λ (j : IsIn c kept). j) (chosen-cases True adds Fit tells Before asym [] kept c has) in
        (kept_widest within Before Counts pre kept are c i, chosen_adds True adds Fit tells Before asym [] kept tt fits are.order c i has);
    all = λ c w more.
        let k = widest_kept within Before Counts pre kept are c w in
        ⊎_elim
        (λ (e : k.kept_one ≡ c). adds_chosen True adds Fit tells Before asym kept are.order c (subst (λ z. IsIn z kept) e k.has) more)
        (λ (b : Before k.kept_one c).
        let d = covered True adds Fit tells Before asym [] kept are.order k.kept_one more.0 k.has
        (wide c k.kept_one more.0 w.counts (are.count k.kept_one k.has) k.wide more.1) in
        let first : Before d.0 c = ⊎_elim (λ (e : d.0 ≡ k.kept_one). subst (λ z. Before z c) (sym e) b)
        (λ (f : Before d.0 k.kept_one). trans d.0 k.kept_one c f b) d.3 in
        absurd (more.2 d.0 d.1 first d.2))
        k.first;
  }
