-- A repetition of items that begin with one of a set of kinds, and lists with commas.
use Rattle.std.proofs.Common.{◌≡◌, ℕ, zero, suc, Bool, true, false, ◌||◌, List, [], ◌∷◌, ◌++◌, length, refl, sym, ◌∙◌, ap, subst, append-nil, inl, inr, Option, Some, None}
use Rattle.easl_model.specs.{IsListed, IsMany, IsMore, listed, next_of, no_more, none_of, nothing, one_more}
use Rattle.easl_model.specs.declared.token.Kind.{Kind}
use Rattle.easl_model.specs.declared.token.Kind.TheVariants as kind
use Rattle.easl_model.specs.declared.token.Mark.TheVariants as mark
use Rattle.easl_model.specs.declared.token.Token.{Token}
use Rattle.cv_read.specs.{Deep, Got, Stuck, behind_mark, choose, commas_at, is_mark, items_at, listed_at, many_at, more_at, nothing_of, pick, put_front}
use Rattle.cv_read.specs.{step_at, then_more, ◌>>=◌}
use Rattle.cv_read.specs.Read.{Read}
use Rattle.cv_read.proofs.Tested.{mark_to, mark_from, mark_self}
use Rattle.cv_read.proofs.Laws.{Lang, Is, either, Avoids, Front, Apart, Reads, Then, Mapped, Or, End, both, choice, empty, mapped, never, respell, same_reader, widen, avoids_less, front_append, front_less, then_starts}
use Rattle.cv_read.proofs.Words.{Led, led, led_starts, or_nothing}

pub or_left : (a b : Bool) → Is a → Is (a || b)
or_left true b h = tt
or_left false b h = absurd h

pub or_right : (a b : Bool) → Is b → Is (a || b)
or_right true b h = tt
or_right false b h = h

-- one item after another
abbrev pub Star : {A : Type 0} → Lang A → Lang (List A)
Star I w [] = w ≡ []
Star I w (x ∷ xs) = (u v : List Token) × I u x × Star I v xs × (w ≡ u ++ v)

module _ {A : Type 0} (p : Kind → Bool) (item : List Token → Read A) (I : Lang A) (G : Kind → Bool) (law : Reads item I G) (starts : (w : List Token) (x : A) → I w x → Front p w) (apart : Apart p G) where
  abbrev pub step : List Token → Read (Option A)
  step = step_at p item

  -- what comes behind an item begins with nothing that the item takes
  pub behind_star : (xs : List A) (w k : List Token) → Star I w xs → Avoids (either G p) k → Avoids G (w ++ k)
  behind_star [] w k s a = subst (λ v. Avoids G (v ++ k)) (sym s) (avoids_less G (either G p) (λ t g. or_left (G t) (p t) g) k a)
  behind_star (x ∷ xs) w k s a = subst (λ v. Avoids G (v ++ k)) (sym s.4) (by s.0 (starts s.0 x s.2))
    where
      by : (u : List Token) → Front p u → Avoids G ((u ++ s.1) ++ k)
      by [] f = absurd f
      by (t ∷ u) f = λ g. apart t.kind f g

  -- a step and the rest, as a choice
  abbrev pub then_rest : ℕ → A → List Token → Read (List A)
  then_rest n x us = many_at step n us >>= λ xs vs. Got (x ∷ xs) vs

  abbrev pub once : ℕ → List Token → Read (List A)
  once n = choose p (λ ts. item ts >>= then_rest n) (λ ts. Got [] ts)

  fronted : (x : A) (r : Read (List A)) → put_front (x ∷ []) r ≡ (r >>= λ xs vs. Got (x ∷ xs) vs)
  fronted x (Got xs vs) = refl
  fronted x (Stuck n) = refl
  fronted x Deep = refl

  on_item : (n : ℕ) (o : Read A) → then_more (many_at step n) (o >>= λ x us. Got (Some x) us) ≡ (o >>= then_rest n)
  on_item n (Got x us) = fronted x (many_at step n us)
  on_item n (Stuck m) = refl
  on_item n Deep = refl

  pub as_choice : (n : ℕ) (ts : List Token) → many_at step (suc n) ts ≡ once n ts
  as_choice n [] = refl
  as_choice n (t ∷ ts) = by (p t.kind)
    where
      by : (b : Bool)
          → then_more (many_at step n) (pick b (item (t ∷ ts) >>= λ x us. Got (Some x) us) (Got None (t ∷ ts))) ≡ pick b (item (t ∷ ts) >>= then_rest n) (Got [] (t ∷ ts))
      by true = on_item n (item (t ∷ ts))
      by false = refl

  abbrev pub Some_more : A → Lang (List A)
  Some_more x = Then (Star I) (λ xs. End (x ∷ xs))

  abbrev pub Once : Lang (List A)
  Once = Or (Then I Some_more) (End [])

  to : (w : List Token) (xs : List A) → Once w xs → Star I w xs
  to w xs (inl s) =
      let v : s.2 ≡ s.4.1 = s.4.5 ∙ ap (λ m. s.4.1 ++ m) s.4.4.0 ∙ append-nil s.4.1 in
      subst (Star I w) (sym s.4.4.1) (s.1, s.2, s.3, subst (λ (m : List Token). Star I m s.4.0) (sym v) s.4.3, s.5)
  to w xs (inr s) = subst (Star I w) (sym s.1) s.0

  from : (w : List Token) (xs : List A) → Star I w xs → Once w xs
  from w [] s = inr (s, refl)
  from w (x ∷ xs) s = inl (x, s.0, s.1, s.2, (xs, s.1, [], s.3, (refl, refl), sym (append-nil s.1)), s.4)

  pub in_turns : (n : ℕ) → Reads (many_at step n) (Star I) (either G p)
  in_turns zero = never (Star I) (either G p) [] [] refl
  in_turns (suc n) = same_reader (once n) (many_at step (suc n)) (Star I) (either G p) (as_choice n) (respell (once n) Once (Star I) (either G p) to from (by (in_turns n)))
    where
      by : Reads (many_at step n) (Star I) (either G p) → Reads (once n) Once (either G p)
      by rec = choice p (λ ts. item ts >>= then_rest n) (λ ts. Got [] ts) (Then I Some_more) (End []) (either G p)
          (both item (then_rest n) I Some_more G (either G p) law
          (λ x. both (many_at step n) (λ xs vs. Got (x ∷ xs) vs) (Star I) (λ xs. End (x ∷ xs)) (either G p) (either G p) rec (λ xs. empty (x ∷ xs) (either G p)) (λ xs w k z s a. subst (λ v. Avoids (either G p) (v ++ k)) (sym s.0) a))
          (λ x w k z s a.
          let v : w ≡ s.1 = s.5 ∙ ap (λ m. s.1 ++ m) s.4.0 ∙ append-nil s.1 in
          subst (λ m. Avoids G (m ++ k)) (sym v) (behind_star s.0 s.1 k s.3 a)))
          (empty [] (either G p))
          (λ w xs s. subst (Front p) (sym s.5) (front_append p s.1 s.2 (starts s.1 s.0 s.3)))
          (λ w xs s. subst (Avoids p) (sym s.0) tt)
          (λ xs s t h. or_right (G t) (p t) h)

  pub repeated : Reads (items_at step) (Star I) (either G p)
  unfolding items_at
  repeated = record {
    some = ([], [], refl);
    sound = λ ts. (in_turns (suc (length ts))).sound ts;
    viable = λ ts. (in_turns (suc (length ts))).viable ts;
    got = λ ts. (in_turns (suc (length ts))).got ts;
    stuck = λ ts. (in_turns (suc (length ts))).stuck ts;
  }

-- what a repetition and then this begins with
pub star_starts : {A B : Type 0} (I : Lang A) (T : List A → Lang B) (p q : Kind → Bool) → ((w : List Token) (x : A) → I w x → Front p w)
    → ((xs : List A) (w : List Token) (z : B) → T xs w z → Front q w) → (w : List Token) (z : B) → Then (Star I) T w z → Front (either p q) w
star_starts {A} I T p q first second w z s = subst (Front (either p q)) (sym s.5) (by s.0 s.1 s.3)
  where
    by : (xs : List A) (u : List Token) → Star I u xs → Front (either p q) (u ++ s.2)
    by [] u h = subst (λ m. Front (either p q) (m ++ s.2)) (sym h) (front_less q (either p q) (λ k f. or_right (p k) (q k) f) s.2 (second s.0 s.2 z s.4))
    by (x ∷ xs) u h =
        subst (λ m. Front (either p q) (m ++ s.2)) (sym h.4)
        (front_append (either p q) (h.0 ++ h.1) s.2 (front_append (either p q) h.0 h.1 (front_less p (either p q) (λ k f. or_left (p k) (q k) f) h.0 (first h.0 x h.2))))

-- lists of the grammar
pub many_to : {A : Type 0} (I : Lang A) (w : List Token) (xs : List A) → Star I w xs → IsMany I w xs
many_to I w [] h = subst (λ m. IsMany I m []) (sym h) none_of
many_to I w (x ∷ xs) h = subst (λ m. IsMany I m (x ∷ xs)) (sym h.4) (next_of h.2 (many_to I h.1 xs h.3))

pub many_from : {A : Type 0} (I : Lang A) (w : List Token) (xs : List A) → IsMany I w xs → Star I w xs
many_from I w xs none_of = refl
many_from I w xs (next_of {ts = ts} {us = us} {x = y} {xs = ys} i h) = (ts, us, i, many_from I us ys h, refl)

-- a comma and then an item
abbrev pub Next : {A : Type 0} → Lang A → Lang A
Next I = Led (is_mark mark.Comma) nothing_of (λ _. I)

more_to : {A : Type 0} (I : Lang A) (w : List Token) (xs : List A) → Star (Next I) w xs → IsMore I w xs
more_to I w [] h = subst (λ m. IsMore I m []) (sym h) no_more
more_to I w (x ∷ xs) h = subst (λ m. IsMore I m (x ∷ xs)) (sym (h.4 ∙ ap (λ m. m ++ h.1) h.2.4)) (one_more (mark_to mark.Comma h.2.0 h.2.2) h.2.3 (more_to I h.1 xs h.3))

more_from : {A : Type 0} (I : Lang A) (w : List Token) (xs : List A) → IsMore I w xs → Star (Next I) w xs
more_from I w xs no_more = refl
more_from I w xs (one_more {comma = c} {ts = ts} {us = us} {x = y} {xs = ys} k i h) = (c ∷ ts, us, (c, ts, mark_from mark.Comma c k, i, refl), more_from I us ys h, refl)

abbrev pub ListGoes : (Kind → Bool) → (Kind → Bool) → Kind → Bool
ListGoes G p = either (either G (is_mark mark.Comma)) p

module _ {A : Type 0} (p : Kind → Bool) (item : List Token → Read A) (I : Lang A) (G : Kind → Bool) (reads : Reads item I G) (starts : (w : List Token) (x : A) → I w x → Front p w) (apart : Apart (is_mark mark.Comma) G) where
  abbrev pub Commas : Lang (List A)
  Commas = Then I (λ x. Mapped (Star (Next I)) (λ xs. x ∷ xs))

  listed_to : (w : List Token) (xs : List A) → Or Commas (End []) w xs → IsListed I w xs
  listed_to w xs (inl h) = subst (IsListed I w) (sym h.4.2) (subst (λ m. IsListed I m (h.0 ∷ h.4.0)) (sym h.5) (listed h.3 (more_to I h.2 h.4.0 h.4.1)))
  listed_to w xs (inr h) = subst (IsListed I w) (sym h.1) (subst (λ m. IsListed I m []) (sym h.0) nothing)

  listed_from : (w : List Token) (xs : List A) → IsListed I w xs → Or Commas (End []) w xs
  listed_from w xs nothing = inr (refl, refl)
  listed_from w xs (listed {ts = ts} {us = us} {x = y} {xs = ys} i h) = inl (y, ts, us, i, (ys, more_from I us ys h, refl), refl)

  pub next_law : Reads (behind_mark mark.Comma item) (Next I) G
  next_law = led (is_mark mark.Comma) nothing_of (kind.Mark mark.Comma) (mark_self mark.Comma) (λ _ us. item us) (λ _. I) G (λ _. reads)

  pub next_starts : (w : List Token) (x : A) → Next I w x → Front (is_mark mark.Comma) w
  next_starts = led_starts (is_mark mark.Comma) nothing_of (λ _. I)

  pub listed_law : Reads (listed_at p item) (IsListed I) (ListGoes G p)
  listed_law = respell (listed_at p item) (Or Commas (End [])) (IsListed I) (ListGoes G p) listed_to listed_from
      (or_nothing p (commas_at item) [] Commas (ListGoes G p)
      (widen (commas_at item) Commas (either G (is_mark mark.Comma)) (ListGoes G p) (λ k h. or_left (either G (is_mark mark.Comma) k) (p k) h)
      (both item (λ x us. more_at item us >>= λ xs vs. Got (x ∷ xs) vs) I (λ x. Mapped (Star (Next I)) (λ xs. x ∷ xs)) G (either G (is_mark mark.Comma)) reads
      (λ x. mapped (more_at item) (λ xs. x ∷ xs) (Star (Next I)) (either G (is_mark mark.Comma)) (repeated (is_mark mark.Comma) (behind_mark mark.Comma item) (Next I) G next_law next_starts apart))
      (λ x w k z h a. behind_star (is_mark mark.Comma) (behind_mark mark.Comma item) (Next I) G next_law next_starts apart h.0 w k h.1 a)))
      (then_starts I (λ x. Mapped (Star (Next I)) (λ xs. x ∷ xs)) p starts)
      (λ k h. or_right (either G (is_mark mark.Comma) k) (p k) h))
