-- A reader goes too deep only where too many brackets stand in the text.
use Rattle.std.proofs.Common.{◌≡◌, ℕ, zero, suc, ◌+◌, ◌<◌, ◌≤◌, Bool, true, false, List, [], ◌∷◌, ◌++◌, length, refl, sym, ◌∙◌, ap, subst, arith, length-append}
use Rattle.easl_model.specs.{StaysShallow, level_after, turned}
use Rattle.easl_model.specs.declared.token.Kind.{Kind}
use Rattle.easl_model.specs.declared.token.Token.{Token}
use Rattle.cv_read.specs.{Deep, Got, Stuck, choose, items_at, many_at, pick, step_at, take_at, ◌>>=◌}
use Rattle.cv_read.specs.Read.{Read}
use Rattle.cv_read.proofs.Laws.{Lang, Is, Front, Apart, Reads, got_or_deep, true_is}
use Rattle.cv_read.proofs.Repeats.{as_choice, then_rest}

-- its spellings close what they open
abbrev pub Even : {A : Type 0} → Lang A → Type 0
Even {A = A} S = (w : List Token) (x : A) → S w x → (b : ℕ) → level_after b w ≡ b

-- with fewer than d more brackets the reader comes to an end
abbrev pub Bounded : {A : Type 0} → (List Token → Read A) → ℕ → Type 0
Bounded r d = (ts : List Token) (b most : ℕ) → r ts ≡ Deep → b ≤ most → most < b + d → StaysShallow most b ts → ⊥

pub shallow_append : (most b : ℕ) (u v : List Token) → StaysShallow most b (u ++ v) → StaysShallow most (level_after b u) v
shallow_append most b [] v s = s
shallow_append most b (t ∷ u) v s = shallow_append most (turned b t.kind) u v s.1

pub behind_even : {A : Type 0} (S : Lang A) → Even S → (ts used us : List Token) (x : A) (b most : ℕ) → ts ≡ used ++ us → S used x
    → StaysShallow most b ts → StaysShallow most b us
behind_even S even ts used us x b most e s h = subst (λ l. StaysShallow most l us) (even used x s b) (shallow_append most b used us (subst (StaysShallow most b) e h))

pub bounded_both : {A B : Type 0} (r : List Token → Read A) (f : A → List Token → Read B) (S : Lang A) (G : Kind → Bool) (d : ℕ) → Reads r S G
    → Even S → Bounded r d → ((x : A) → Bounded (f x) d) → Bounded (λ ts. r ts >>= f) d
bounded_both {A} {B} r f S G d law even first second ts b most e h m s = by (r ts) refl e
  where
    by : (o : Read A) → r ts ≡ o → (o >>= f) ≡ Deep → ⊥
    by (Got x us) p e = let a = law.sound ts us x p in second x us b most e h m (behind_even S even ts a.0 us x b most a.1 a.2 s)
    by (Stuck n) p e = stuck_or_deep e
      where
        stuck_or_deep : {P : Type 0} → ◌≡◌ {A = Read B} (Stuck n) Deep → P
        stuck_or_deep e = cc
    by Deep p e = first ts b most p h m s

pub bounded_choose : {A : Type 0} (p : Kind → Bool) (r q : List Token → Read A) (d : ℕ) → Bounded r d → Bounded q d → Bounded (choose p r q) d
bounded_choose p r q d first second [] b most e h m s = second [] b most e h m s
bounded_choose p r q d first second (t ∷ ts) b most e h m s = by (p t.kind) e
  where
    by : (c : Bool) → pick c (r (t ∷ ts)) (q (t ∷ ts)) ≡ Deep → ⊥
    by true e = first (t ∷ ts) b most e h m s
    by false e = second (t ∷ ts) b most e h m s

pub bounded_take : {A : Type 0} (p : Kind → Bool) (value : Token → A) (d : ℕ) → Bounded (take_at p value) d
bounded_take {A} p value d [] b most e h m s = cc
bounded_take {A} p value d (t ∷ ts) b most e h m s = by (p t.kind) e
  where
    by : (c : Bool) → pick c (Got (value t) ts) (Stuck (length (t ∷ ts))) ≡ Deep → ⊥
    by true e = got_or_deep e
    by false e = cc

pub bounded_got : {A : Type 0} (x : A) (d : ℕ) → Bounded (λ us. Got x us) d
bounded_got x d ts b most e h m s = got_or_deep e

-- one bracket more
pub bounded_bracket : {A B : Type 0} (p : Kind → Bool) (value : Token → A) (r : A → List Token → Read B) (d : ℕ)
    → ((k : Kind) → Is (p k) → (b : ℕ) → turned b k ≡ suc b) → ((x : A) → Bounded (r x) d) → Bounded (λ ts. take_at p value ts >>= r) (suc d)
bounded_bracket p value r d rises inner [] b most e h m s = cc
bounded_bracket {A} {B} p value r d rises inner (t ∷ ts) b most e h m s = by (p t.kind) refl e
  where
    by : (c : Bool) → p t.kind ≡ c → (pick c (Got (value t) ts) (Stuck (length (t ∷ ts))) >>= r) ≡ Deep → ⊥
    by true i e =
        let u : turned b t.kind ≡ suc b = rises t.kind (true_is (p t.kind) i) b in
        inner (value t) ts (suc b) most e (subst (λ c. c ≤ most) u s.0) (omega arith) (subst (λ c. StaysShallow most c ts) u s.1)
    by false i e = cc

module _ {A : Type 0} (p : Kind → Bool) (item : List Token → Read A) (I : Lang A) (G : Kind → Bool) (law : Reads item I G) (starts : (w : List Token) (x : A) → I w x → Front p w) (apart : Apart p G) (even : Even I) (d : ℕ) (bound : Bounded item d) where
  bounded_turns : (n : ℕ) (ts : List Token) (b most : ℕ) → length ts < n → many_at (step_at p item) n ts ≡ Deep → b ≤ most → most < b + d
      → StaysShallow most b ts → ⊥
  bounded_turns zero ts b most l e h m s = absurd (omega arith)
  bounded_turns (suc n) [] b most l e h m s = got_or_deep e
  bounded_turns (suc n) (t ∷ ts) b most l e h m s = by (p t.kind) (sym (as_choice p item I G law starts apart n (t ∷ ts)) ∙ e) (bounded_turns n)
    where
      Rec : Type 0
      Rec = (us : List Token) (b most : ℕ) → length us < n → many_at (step_at p item) n us ≡ Deep → b ≤ most → most < b + d → StaysShallow most b us → ⊥

      rest : (us : List Token) (x : A) → (o : Read (List A)) → (o >>= λ xs vs. Got (x ∷ xs) vs) ≡ Deep → o ≡ Deep
      rest us x (Got xs vs) e = got_or_deep e
      rest us x (Stuck k) e = cc
      rest us x Deep e = refl

      on : (o : Read A) → item (t ∷ ts) ≡ o → (o >>= then_rest p item I G law starts apart n) ≡ Deep → Rec → ⊥
      on (Got x us) q e rec =
          let a = law.sound (t ∷ ts) us x q in
          let long : 0 < length a.0 = by_front a.0 (starts a.0 x a.2) in
          let total : length (t ∷ ts) ≡ length a.0 + length us = ap length a.1 ∙ length-append a.0 us in
          rec us b most (omega arith) (rest us x (many_at (step_at p item) n us) e) h m (behind_even I even (t ∷ ts) a.0 us x b most a.1 a.2 s)
        where
          by_front : (u : List Token) → Front p u → 0 < length u
          by_front [] f = absurd f
          by_front (z ∷ u) f = omega arith
      on (Stuck k) q e rec = cc
      on Deep q e rec = bound (t ∷ ts) b most q h m s

      by : (c : Bool) → pick c (item (t ∷ ts) >>= then_rest p item I G law starts apart n) (Got [] (t ∷ ts)) ≡ Deep → Rec → ⊥
      by true e rec = on (item (t ∷ ts)) refl e rec
      by false e rec = got_or_deep e

  pub bounded_items : Bounded (items_at (step_at p item)) d
  unfolding items_at
  bounded_items ts b most e h m s = bounded_turns (suc (length ts)) ts b most (omega arith) e h m s
