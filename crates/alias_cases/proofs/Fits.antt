-- A configuration with one term more is one of the first terms, and a block that fits.
use Rattle.std.proofs.Common.{◌≡◌, ℕ, zero, suc, ◌<◌, ◌≤◌, Bool, true, false, List, [], ◌∷◌, ◌++◌, length, Option, Some, None, slice_index, arith, refl, ap, sym, subst, ◌∙◌, inl, inr, ⊎_elim, eqb-true, eq-eqb, if◌then◌else◌, length-append}
use Rattle.std.specs.Prelude.{◌⊎◌, ◌==◌, slice_get}
use Rattle.std.proofs.Math.ListN.{get_or-append}
use Rattle.std.proofs.Math.Seq.{get_or-append_seam}
use Rattle.std.proofs.lemmas.Bool.{and_parts, and_from, cases_eq}
use Rattle.std.proofs.lemmas.Option.{get_or_from_slice_get, slice_get_within}
use Rattle.case_model.specs.{Joined}
use Rattle.alias_cases.specs.{fitting_blocks, fitting_by, is_alike, led_to, open_blocks}
use Rattle.alias_cases.specs.declared.steps.Step.{Step}
use Rattle.alias_cases.proofs.Arranged.{IsArranged, IsLadder, next_number}
use Rattle.alias_cases.proofs.Lists.{IsIn, Rises}
use Rattle.alias_cases.proofs.Open.{IsOpen, below-next, numbered-front, numbered-push, open-has, open-is, open-rises, open-some}

-- a step along the field of this one, from a term that is joined with its shorter one
record IsAlike (bs : List ℕ) (own s : Step) : Type 0 where
  field : s.field ≡ own.field
  joined : Joined bs s.shorter own.shorter

alike-is : (bs : List ℕ) (own s : Step) → is_alike bs own (Some s) ≡ true → IsAlike bs own s
alike-is bs own s h =
    let p = and_parts (s.field == own.field) (slice_index bs s.shorter == slice_index bs own.shorter) h in
    record { field = eqb-true s.field own.field p.0; joined = eqb-true (slice_index bs s.shorter) (slice_index bs own.shorter) p.1 }

is-alike : (bs : List ℕ) (own s : Step) → IsAlike bs own s → is_alike bs own (Some s) ≡ true
is-alike bs own s h =
    and_from (s.field == own.field) (slice_index bs s.shorter == slice_index bs own.shorter)
    (eq-eqb s.field own.field h.field)
    (eq-eqb (slice_index bs s.shorter) (slice_index bs own.shorter) h.joined)

-- a step that leads to this block
record Leads (bs : List ℕ) (own : Step) (ss : List (Option Step)) (cs : List ℕ) (c : ℕ) : Type 0 where
  j : ℕ
  step : Step
  at : slice_get ss j ≡ Some (Some step)
  block : slice_get cs j ≡ Some c
  alike : IsAlike bs own step

module _ (bs : List ℕ) (own : Step) where
  led-some : (ss : List (Option Step)) (cs : List ℕ) (c : ℕ) → led_to bs own ss cs ≡ Some c → Leads bs own ss cs c
  led-some [] cs c h = absurd (cc)
  led-some (s ∷ ss) [] c h = absurd (cc)
  led-some (s ∷ ss) (d ∷ cs) c h = by s (is_alike bs own s) refl h (led-some ss cs c)
    where
      by : (o : Option Step) (b : Bool) → is_alike bs own o ≡ b → (if b then Some d else led_to bs own ss cs) ≡ Some c
          → (led_to bs own ss cs ≡ Some c → Leads bs own ss cs c) → Leads bs own (o ∷ ss) (d ∷ cs) c
      by None true e h rest = absurd (cc)
      by (Some t) true e h rest = record { j = 0; step = t; at = refl; block = h; alike = alike-is bs own t e }
      by o false e h rest = let r = rest h in record { j = suc r.j; step = r.step; at = r.at; block = r.block; alike = r.alike }

  led-none : (ss : List (Option Step)) (cs : List ℕ) → led_to bs own ss cs ≡ None
      → (j : ℕ) (s : Step) → slice_get ss j ≡ Some (Some s) → j < length cs → IsAlike bs own s → ⊥
  led-none [] cs h j s at within alike = absurd (cc)
  led-none (o ∷ ss) [] h j s at within alike = absurd (omega arith)
  led-none (o ∷ ss) (d ∷ cs) h zero s at within alike =
      let this : o ≡ Some s = cc in
      let so : is_alike bs own o ≡ true = ap (is_alike bs own) this ∙ is-alike bs own s alike in
      let found : (if is_alike bs own o then Some d else led_to bs own ss cs) ≡ Some d = ap (λ b. if b then Some d else led_to bs own ss cs) so in
      cc
  led-none (o ∷ ss) (d ∷ cs) h (suc j) s at within alike = by (is_alike bs own o) h (λ none. led-none ss cs none j s at (omega arith) alike)
    where
      by : (b : Bool) → (if b then Some d else led_to bs own ss cs) ≡ None → (led_to bs own ss cs ≡ None → ⊥) → ⊥
      by true h rest = cc
      by false h rest = rest h

-- the last of some blocks, with those before it
pub record IsPushed (n : ℕ) (xs : List ℕ) : Type 0 where
  pub front : List ℕ
  pub last : ℕ
  pub is : xs ≡ front ++ last ∷ []
  pub long : length front ≡ n

pub pushed : (n : ℕ) (xs : List ℕ) → length xs ≡ suc n → IsPushed n xs
pushed n [] long = absurd (omega (arith, long))
pushed zero (x ∷ []) long = record { front = []; last = x; is = refl; long = refl }
pushed zero (x ∷ y ∷ xs) long = absurd (omega (arith, long))
pushed (suc n) (x ∷ xs) long =
    let rest = pushed n xs (omega (arith, long)) in
    record { front = x ∷ rest.front; last = rest.last; is = ap (λ l. x ∷ l) rest.is; long = omega (arith, rest.long) }

module _ (steps : List (Option Step)) (classes : List ℕ) (ladder : IsLadder steps classes) (n : ℕ) (own : Option Step) (there : slice_get steps n ≡ Some own) where
  within : n < length steps
  within = slice_get_within steps n own there

  module _ (bs : List ℕ) (b : ℕ) (long : length bs ≡ n) where
    before : (i : ℕ) → i < n → slice_index (bs ++ b ∷ []) i ≡ slice_index bs i
    before i h = get_or-append bs (b ∷ []) 0 i (omega (arith, long))

    here : slice_index (bs ++ b ∷ []) n ≡ b
    here = subst (λ k. slice_index (bs ++ b ∷ []) k ≡ b) long (get_or-append_seam bs b [] 0)

    -- a block for the next term: it is there or new, of the term's class, and the one to which its step leads
    record Suits : Type 0 where
      low : b ≤ next_number 0 bs
      class : (j : ℕ) → j < n → slice_index bs j ≡ b → slice_index classes j ≡ slice_index classes n
      led : (l : ℕ) (s t : Step) → own ≡ Some s → l < n → slice_get steps l ≡ Some (Some t) → IsAlike bs s t → slice_index bs l ≡ b

    suits-arranged : IsArranged steps classes n bs → Suits → IsArranged steps classes (suc n) (bs ++ b ∷ [])
    suits-arranged was suits = record {
      as_many = length-append bs (b ∷ []) ∙ omega (arith, long);
      numbered = numbered-push 0 bs b was.numbered suits.low;
      one_class = λ i j h k joined. classes_same i j (cases_eq i n) (cases_eq j n) h k joined;
      along_fields = λ k l s t h i ks lt field joined. fields_same k l s t (cases_eq k n) (cases_eq l n) h i ks lt field joined;
    }
      where
        classes_same : (i j : ℕ) → (i ≡ n) ⊎ (i ≡ n → ⊥) → (j ≡ n) ⊎ (j ≡ n → ⊥) → i < suc n → j < suc n → Joined (bs ++ b ∷ []) i j
            → slice_index classes i ≡ slice_index classes j
        classes_same i j (inl e) (inl f) h k joined = ap (slice_index classes) (e ∙ sym f)
        classes_same i j (inl e) (inr f) h k joined =
            let last : slice_index bs j ≡ b = sym (before j (omega arith)) ∙ sym joined ∙ ap (slice_index (bs ++ b ∷ [])) e ∙ here in
            ap (slice_index classes) e ∙ sym (suits.class j (omega arith) last)
        classes_same i j (inr e) (inl f) h k joined =
            let last : slice_index bs i ≡ b = sym (before i (omega arith)) ∙ joined ∙ ap (slice_index (bs ++ b ∷ [])) f ∙ here in
            suits.class i (omega arith) last ∙ ap (slice_index classes) (sym f)
        classes_same i j (inr e) (inr f) h k joined =
            was.one_class i j (omega arith) (omega arith) (sym (before i (omega arith)) ∙ joined ∙ before j (omega arith))

        -- the shorter terms stand before
        joined_before : (k l : ℕ) (s t : Step) → k < suc n → l < suc n → slice_get steps k ≡ Some (Some s) → slice_get steps l ≡ Some (Some t)
            → Joined (bs ++ b ∷ []) s.shorter t.shorter → Joined bs s.shorter t.shorter
        joined_before k l s t h i ks lt joined =
            let ks' = ladder.earlier k s ks in
            let lt' = ladder.earlier l t lt in
            sym (before s.shorter (omega arith)) ∙ joined ∙ before t.shorter (omega arith)

        step_is : (k : ℕ) (s : Step) → k ≡ n → slice_get steps k ≡ Some (Some s) → own ≡ Some s
        step_is k s e ks = let both : Some own ≡ Some (Some s) = sym there ∙ ap (slice_get steps) (sym e) ∙ ks in cc

        fields_same : (k l : ℕ) (s t : Step) → (k ≡ n) ⊎ (k ≡ n → ⊥) → (l ≡ n) ⊎ (l ≡ n → ⊥) → k < suc n → l < suc n
            → slice_get steps k ≡ Some (Some s) → slice_get steps l ≡ Some (Some t)
            → s.field ≡ t.field → Joined (bs ++ b ∷ []) s.shorter t.shorter → Joined (bs ++ b ∷ []) k l
        fields_same k l s t (inl e) (inl f) h i ks lt field joined = ap (slice_index (bs ++ b ∷ [])) (e ∙ sym f)
        fields_same k l s t (inl e) (inr f) h i ks lt field joined =
            let alike : IsAlike bs s t = record { field = sym field; joined = sym (joined_before k l s t h i ks lt joined) } in
            ap (slice_index (bs ++ b ∷ [])) e ∙ here ∙ sym (suits.led l s t (step_is k s e ks) (omega arith) lt alike) ∙ sym (before l (omega arith))
        fields_same k l s t (inr e) (inl f) h i ks lt field joined =
            let alike : IsAlike bs t s = record { field = field; joined = joined_before k l s t h i ks lt joined } in
            before k (omega arith) ∙ suits.led k t s (step_is l t f lt) (omega arith) ks alike ∙ sym here ∙ ap (slice_index (bs ++ b ∷ [])) (sym f)
        fields_same k l s t (inr e) (inr f) h i ks lt field joined =
            before k (omega arith)
            ∙ was.along_fields k l s t (omega arith) (omega arith) ks lt field (joined_before k l s t h i ks lt joined)
            ∙ sym (before l (omega arith))

    arranged-front : IsArranged steps classes (suc n) (bs ++ b ∷ []) → IsArranged steps classes n bs
    arranged-front is = record {
      as_many = long;
      numbered = (numbered-front 0 bs b is.numbered).0;
      one_class = λ i j h k joined. is.one_class i j (omega arith) (omega arith) (before i h ∙ joined ∙ sym (before j k));
      along_fields = λ k l s t h i ks lt field joined.
          let ks' = ladder.earlier k s ks in
          let lt' = ladder.earlier l t lt in
          sym (before k h)
          ∙ is.along_fields k l s t (omega arith) (omega arith) ks lt field (before s.shorter (omega arith) ∙ joined ∙ sym (before t.shorter (omega arith)))
          ∙ before l i;
    }

    arranged-suits : IsArranged steps classes (suc n) (bs ++ b ∷ []) → Suits
    arranged-suits is = record {
      low = (numbered-front 0 bs b is.numbered).1;
      class = λ j h at. is.one_class j n (omega arith) (omega arith) (before j h ∙ at ∙ sym here);
      led = λ l s t e h lt alike.
          let ns : slice_get steps n ≡ Some (Some s) = there ∙ ap Some e in
          let ns' = ladder.earlier n s ns in
          let lt' = ladder.earlier l t lt in
          sym (before l h)
          ∙ is.along_fields l n t s (omega arith) (omega arith) lt ns alike.field (before t.shorter (omega arith) ∙ alike.joined ∙ sym (before s.shorter (omega arith)))
          ∙ here;
    }

    as_many : length bs ≤ length classes
    as_many = omega (arith, long, within, ladder.as_many)

    open-suits : IsArranged steps classes n bs → ((l : ℕ) (s t : Step) → own ≡ Some s → l < n → slice_get steps l ≡ Some (Some t) → IsAlike bs s t → ⊥)
        → IsIn b (open_blocks (slice_index classes n) 0 classes bs) → Suits
    open-suits was none has = by (open-is (slice_index classes n) 0 classes bs b as_many was.numbered has)
      where
        by : IsOpen (slice_index classes n) 0 classes bs b → Suits
        by (inl e) = record {
          low = omega (arith, e);
          class = λ j h at. absurd (let below = below-next 0 bs j (omega (arith, long)) in omega (arith, e, at, below));
          led = λ l s t is h lt alike. absurd (none l s t is h lt alike);
        }
        by (inr h) = record {
          low = (let below = below-next 0 bs h.0 h.1 in omega (arith, h.2, below));
          class = λ j k at. was.one_class j h.0 k (omega (arith, h.1, long)) (at ∙ sym h.2) ∙ h.3;
          led = λ l s t is k lt alike. absurd (none l s t is k lt alike);
        }

    suits-open : IsArranged steps classes n bs → Suits → IsIn b (open_blocks (slice_index classes n) 0 classes bs)
    suits-open was suits =
        open-has (slice_index classes n) 0 classes bs b as_many was.numbered (omega arith) suits.low
        (λ j h at. suits.class j (omega (arith, long)) at)

    fits-suits : IsArranged steps classes n bs → (o : Option Step) → own ≡ o → IsIn b (fitting_blocks steps classes o (slice_index classes n) bs) → Suits
    fits-suits was None e has = open-suits was (λ l s t is h lt alike. absurd (cc)) has
    fits-suits was (Some s) e has = by (led_to bs s steps bs) refl has
      where
        ns : slice_get steps n ≡ Some (Some s)
        ns = there ∙ ap Some e

        same : (s' : Step) → own ≡ Some s' → s' ≡ s
        same s' is = let both : Some s' ≡ Some s = sym is ∙ e in cc

        by : (r : Option ℕ) → led_to bs s steps bs ≡ r → IsIn b (fitting_by r (slice_index classes n) classes bs) → Suits
        by None none has =
            open-suits was (λ l s' t is h lt alike. led-none bs s steps bs none l t lt (omega (arith, long)) (subst (λ x. IsAlike bs x t) (same s' is) alike)) has
        by (Some c) some has =
            let lead = led-some bs s steps bs c some in
            let in_it = slice_get_within bs lead.j c lead.block in
            let early = ladder.earlier lead.j lead.step lead.at in
            let own_early = ladder.earlier n s ns in
            let this : c ≡ b = ⊎_elim (λ (e : c ≡ b). e) (λ (none : ⊥). absurd none) has in
            let at : slice_index bs lead.j ≡ b = get_or_from_slice_get bs lead.j c 0 lead.block ∙ this in
            record {
              low = (let below = below-next 0 bs lead.j in_it in omega (arith, at, below));
              class = λ i h is.
                  was.one_class i lead.j h (omega (arith, in_it, long)) (is ∙ sym at)
                  ∙ ladder.one_class lead.j n lead.step s lead.at ns lead.alike.field
                  (was.one_class lead.step.shorter s.shorter (omega (arith, in_it, early, long)) own_early lead.alike.joined);
              led = λ l s' t is h lt alike.
                  let alike' = subst (λ x. IsAlike bs x t) (same s' is) alike in
                  was.along_fields l lead.j t lead.step h (omega (arith, in_it, long)) lt lead.at (alike'.field ∙ sym lead.alike.field) (alike'.joined ∙ sym lead.alike.joined) ∙ at;
            }

    suits-fits : IsArranged steps classes n bs → Suits → (o : Option Step) → own ≡ o → IsIn b (fitting_blocks steps classes o (slice_index classes n) bs)
    suits-fits was suits None e = suits-open was suits
    suits-fits was suits (Some s) e = by (led_to bs s steps bs) refl
      where
        by : (r : Option ℕ) → led_to bs s steps bs ≡ r → IsIn b (fitting_by r (slice_index classes n) classes bs)
        by None none = suits-open was suits
        by (Some c) some =
            let lead = led-some bs s steps bs c some in
            let in_it = slice_get_within bs lead.j c lead.block in
            inl (sym (get_or_from_slice_get bs lead.j c 0 lead.block) ∙ suits.led lead.j s lead.step e (omega (arith, in_it, long)) lead.at lead.alike)

  -- with a block that fits, a configuration of the first terms is one with the next term too
  pub fits-arranged : (bs : List ℕ) (b : ℕ) → IsArranged steps classes n bs → IsIn b (fitting_blocks steps classes own (slice_index classes n) bs)
      → IsArranged steps classes (suc n) (bs ++ b ∷ [])
  fits-arranged bs b was has = suits-arranged bs b was.as_many was (fits-suits bs b was.as_many was own refl has)

  pub arranged-before : (bs : List ℕ) (b : ℕ) → length bs ≡ n → IsArranged steps classes (suc n) (bs ++ b ∷ []) → IsArranged steps classes n bs
  arranged-before bs b long is = arranged-front bs b long is

  pub arranged-fits : (bs : List ℕ) (b : ℕ) → length bs ≡ n → IsArranged steps classes (suc n) (bs ++ b ∷ [])
      → IsIn b (fitting_blocks steps classes own (slice_index classes n) bs)
  arranged-fits bs b long is = suits-fits bs b long (arranged-front bs b long is) (arranged-suits bs b long is) own refl

module _ (steps : List (Option Step)) (classes : List ℕ) (class : ℕ) (bs : List ℕ) where
  pub fitting-rises : (own : Option Step) → Rises (λ x y. x < y) (fitting_blocks steps classes own class bs)
  fitting-rises None = (open-rises class 0 classes bs).1
  fitting-rises (Some s) = by (led_to bs s steps bs)
    where
      by : (r : Option ℕ) → Rises (λ x y. x < y) (fitting_by r class classes bs)
      by None = (open-rises class 0 classes bs).1
      by (Some c) = (tt, tt)

  pub fitting-some : (own : Option Step) → 0 < length (fitting_blocks steps classes own class bs)
  fitting-some None = open-some class 0 classes bs
  fitting-some (Some s) = by (led_to bs s steps bs)
    where
      by : (r : Option ℕ) → 0 < length (fitting_by r class classes bs)
      by None = open-some class 0 classes bs
      by (Some c) = omega arith
