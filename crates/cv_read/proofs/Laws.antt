-- Laws that a reader may have, and how they compose: one token, one reader after another, a choice by the first token.
use Rattle.std.proofs.Common.{◌≡◌, ℕ, suc, ◌≤◌, Bool, true, false, ◌||◌, List, [], ◌∷◌, ◌++◌, length, refl, sym, ◌∙◌, ap, subst, arith, append_assoc, append-nil, length-append, ◌⊎◌, inl, inr}
use Rattle.easl_model.specs.declared.token.Kind.{Kind}
use Rattle.easl_model.specs.declared.token.Token.{Token}
use Rattle.cv_read.specs.{Deep, Got, Stuck, choose, pick, take_at, ◌>>=◌}
use Rattle.cv_read.specs.Read.{Read}

-- w has the tokens of ts up to and with the one where n are left, or both end
abbrev pub Upto : List Token → ℕ → List Token → Type 0
Upto [] n [] = Unit {0}
Upto [] n (x ∷ w) = ⊥
Upto (t ∷ ts) n [] = ⊥
Upto (t ∷ ts) n (x ∷ w) = (t ≡ x) × ((n ≡ suc (length ts)) ⊎ Upto ts n w)

abbrev pub Lang : Type 0 → Type 1
Lang A = List Token → A → Type 0

-- sets of kinds of tokens
abbrev pub Is : Bool → Type 0
Is true = Unit {0}
Is false = ⊥

abbrev pub none : Kind → Bool
none k = false

abbrev pub either : (Kind → Bool) → (Kind → Bool) → Kind → Bool
either p q k = p k || q k

-- the list does not begin with one of these
abbrev pub Avoids : (Kind → Bool) → List Token → Type 0
Avoids G [] = Unit {0}
Avoids G (t ∷ ts) = Is (G t.kind) → ⊥

-- the list begins with one of these
abbrev pub Front : (Kind → Bool) → List Token → Type 0
Front p [] = ⊥
Front p (t ∷ ts) = Is (p t.kind)

abbrev pub Sub : (Kind → Bool) → (Kind → Bool) → Type 0
Sub p q = (k : Kind) → Is (p k) → Is (q k)

abbrev pub Apart : (Kind → Bool) → (Kind → Bool) → Type 0
Apart p q = (k : Kind) → Is (p k) → Is (q k) → ⊥

-- The reader reads this language, and greedily takes what begins with the tokens G.
pub record Reads {A : Type 0} (r : List Token → Read A) (S : Lang A) (G : Kind → Bool) : Type 0 where
  -- there is a spelling
  pub some : (w : List Token) × (x : A) × S w x
  -- what is read is spelled so
  pub sound : (ts us : List Token) (x : A) → r ts ≡ Got x us → (used : List Token) × (ts ≡ used ++ us) × S used x
  -- where it stops, the tokens before it begin a spelling
  pub viable : (ts : List Token) (n : ℕ) → r ts ≡ Stuck n → (p q : List Token) × (ts ≡ p ++ q) × (length q ≡ n) × (v : List Token) × (x : A) × S (p ++ v) x
  -- a spelling that agrees so far is what was read
  pub got : (ts us w k : List Token) (x y : A) (n : ℕ) → r ts ≡ Got x us → n ≤ length us → S w y → Avoids G k → Upto ts n (w ++ k) → (ts ≡ w ++ us) × (y ≡ x)
  -- no spelling agrees up to where it stops
  pub stuck : (ts w k : List Token) (y : A) (n : ℕ) → r ts ≡ Stuck n → S w y → Avoids G k → Upto ts n (w ++ k) → ⊥

-- the common front taken away
pub under : (p ts w : List Token) (n : ℕ) → n ≤ length ts → Upto (p ++ ts) n (p ++ w) → Upto ts n w
under [] ts w n h u = u
under (t ∷ p) ts w n h u = rest u.1 (λ v. under p ts w n h v)
  where
    rest : (n ≡ suc (length (p ++ ts))) ⊎ Upto (p ++ ts) n (p ++ w) → (Upto (p ++ ts) n (p ++ w) → Upto ts n w) → Upto ts n w
    rest (inl e) f = absurd (omega (arith, length-append p ts))
    rest (inr v) f = f v

pub got_list : {A : Type 0} {x y : A} {us vs : List Token} → Got x us ≡ Got y vs → us ≡ vs
got_list e = cc

pub got_value : {A : Type 0} {x y : A} {us vs : List Token} → Got x us ≡ Got y vs → x ≡ y
got_value e = cc

pub stuck_left : {A : Type 0} {m n : ℕ} → ◌≡◌ {A = Read A} (Stuck m) (Stuck n) → m ≡ n
stuck_left e = cc

pub got_or_stuck : {A P : Type 0} {x : A} {us : List Token} {n : ℕ} → Got x us ≡ Stuck n → P
got_or_stuck e = cc

pub stuck_or_got : {A P : Type 0} {x : A} {us : List Token} {n : ℕ} → Stuck n ≡ Got x us → P
stuck_or_got e = cc

pub got_or_deep : {A P : Type 0} {x : A} {us : List Token} → Got x us ≡ Deep → P
got_or_deep e = cc

pub deep_or_got : {A P : Type 0} {x : A} {us : List Token} → Deep ≡ Got x us → P
deep_or_got e = cc

pub deep_or_stuck : {A P : Type 0} {n : ℕ} → ◌≡◌ {A = Read A} Deep (Stuck n) → P
deep_or_stuck e = cc

-- no token
abbrev pub End : {A : Type 0} → A → Lang A
End x w y = (w ≡ []) × (y ≡ x)

pub empty : {A : Type 0} (x : A) (G : Kind → Bool) → Reads (λ us. Got x us) (End x) G
empty x G = record {
  some = ([], x, (refl, refl));
  sound = λ ts us y e. ([], got_list e, (refl, sym (got_value e)));
  viable = λ ts n e. got_or_stuck e;
  got = λ ts us w k y z n e h s a u. (got_list e ∙ ap (λ v. v ++ us) (sym s.0), s.1 ∙ got_value e);
  stuck = λ ts w k y n e s a u. got_or_stuck e;
}

-- one language and then another
abbrev pub Then : {A B : Type 0} → Lang A → (A → Lang B) → Lang B
Then {A = A} S T w z = (x : A) × (u v : List Token) × S u x × T x v z × (w ≡ u ++ v)

module _ {A B : Type 0} (r : List Token → Read A) (f : A → List Token → Read B) (S : Lang A) (T : A → Lang B) (G H : Kind → Bool) (first : Reads r S G) (second : (x : A) → Reads (f x) (T x) H) (follow : (x : A) (w k : List Token) (z : B) → T x w z → Avoids H k → Avoids G (w ++ k)) where
  pub both : Reads (λ ts. r ts >>= f) (Then S T) H
  both = record {
    some = let a = first.some in let b = (second a.1).some in (a.0 ++ b.0, b.1, (a.1, a.0, b.0, a.2, b.2, refl));
    sound = λ ts us z e. sound_by ts us z (r ts) refl e;
    viable = λ ts n e. viable_by ts n (r ts) refl e;
    got = λ ts us w k z y n e h s a u. got_by ts us w k z y n h s a u (r ts) refl e;
    stuck = λ ts w k y n e s a u. stuck_by ts w k y n s a u (r ts) refl e;
  }
    where
      sound_by : (ts us : List Token) (z : B) (o : Read A) → r ts ≡ o → (o >>= f) ≡ Got z us → (used : List Token) × (ts ≡ used ++ us) × Then S T used z
      sound_by ts us z (Got x vs) p e =
          let a = first.sound ts vs x p in
          let b = (second x).sound vs us z e in
          (a.0 ++ b.0, a.1 ∙ (ap (λ ws. a.0 ++ ws) b.1 ∙ sym (append_assoc a.0 b.0 us)), (x, a.0, b.0, a.2, b.2, refl))
      sound_by ts us z (Stuck m) p e = stuck_or_got e
      sound_by ts us z Deep p e = deep_or_got e

      viable_by : (ts : List Token) (n : ℕ) (o : Read A) → r ts ≡ o → (o >>= f) ≡ Stuck n
          → (p q : List Token) × (ts ≡ p ++ q) × (length q ≡ n) × (v : List Token) × (x : B) × Then S T (p ++ v) x
      viable_by ts n (Got x vs) p e =
          let a = first.sound ts vs x p in
          let b = (second x).viable vs n e in
          (a.0 ++ b.0, b.1, a.1 ∙ (ap (λ ws. a.0 ++ ws) b.2 ∙ sym (append_assoc a.0 b.0 b.1)), b.3, b.4, b.5, (x, a.0, b.0 ++ b.4, a.2, b.6, append_assoc a.0 b.0 b.4))
      viable_by ts n (Stuck m) p e =
          let a = first.viable ts n (p ∙ ap Stuck (stuck_left e)) in
          let b = (second a.5).some in
          (a.0, a.1, a.2, a.3, a.4 ++ b.0, b.1, (a.5, a.0 ++ a.4, b.0, a.6, b.2, sym (append_assoc a.0 a.4 b.0)))
      viable_by ts n Deep p e = deep_or_stuck e

      -- the first part is what was read, and the rest agrees
      first_by : (ts vs w k u v : List Token) (x y : A) (z : B) (n : ℕ) → r ts ≡ Got x vs → n ≤ length vs → S u y → T y v z → w ≡ u ++ v → Avoids H k
          → Upto ts n (w ++ k) → (ts ≡ u ++ vs) × (y ≡ x) × Upto vs n (v ++ k)
      first_by ts vs w k u v x y z n p h su tv e a up =
          let up' : Upto ts n (u ++ (v ++ k)) = subst (Upto ts n) (ap (λ m. m ++ k) e ∙ append_assoc u v k) up in
          let g = first.got ts vs u (v ++ k) x y n p h su (follow y v k z tv a) up' in
          (g.0, g.1, under u vs (v ++ k) n h (subst (λ m. Upto m n (u ++ (v ++ k))) g.0 up'))

      got_by : (ts us w k : List Token) (z y : B) (n : ℕ) → n ≤ length us → Then S T w y → Avoids H k → Upto ts n (w ++ k) → (o : Read A) → r ts ≡ o
          → (o >>= f) ≡ Got z us → (ts ≡ w ++ us) × (y ≡ z)
      got_by ts us w k z y n h s a up (Got x vs) p e =
          let b = (second x).sound vs us z e in
          let short : n ≤ length vs = rw b.1 (omega (arith, length-append b.0 us)) in
          let g = first_by ts vs w k s.1 s.2 x s.0 y n p short s.3 s.4 s.5 a up in
          let q = (second x).got vs us s.2 k z y n e h (subst (λ (m : A). T m s.2 y) g.1 s.4) a g.2 in
          (g.0 ∙ (ap (λ m. s.1 ++ m) q.0 ∙ (sym (append_assoc s.1 s.2 us) ∙ ap (λ m. m ++ us) (sym s.5))), q.1)
      got_by ts us w k z y n h s a up (Stuck m) p e = stuck_or_got e
      got_by ts us w k z y n h s a up Deep p e = deep_or_got e

      stuck_by : (ts w k : List Token) (y : B) (n : ℕ) → Then S T w y → Avoids H k → Upto ts n (w ++ k) → (o : Read A) → r ts ≡ o → (o >>= f) ≡ Stuck n → ⊥
      stuck_by ts w k y n s a up (Got x vs) p e =
          let b = (second x).viable vs n e in
          let short : n ≤ length vs = rw b.2 (omega (arith, length-append b.0 b.1, b.3)) in
          let g = first_by ts vs w k s.1 s.2 x s.0 y n p short s.3 s.4 s.5 a up in
          (second x).stuck vs s.2 k y n e (subst (λ (m : A). T m s.2 y) g.1 s.4) a g.2
      stuck_by ts w k y n s a up (Stuck m) p e =
          first.stuck ts s.1 (s.2 ++ k) s.0 n (p ∙ ap Stuck (stuck_left e)) s.3 (follow s.0 s.2 k y s.4 a) (subst (Upto ts n) (ap (λ m. m ++ k) s.5 ∙ append_assoc s.1 s.2 k) up)
      stuck_by ts w k y n s a up Deep p e = deep_or_stuck e

-- a law holds of every reader that reads the same
pub same_reader : {A : Type 0} (r q : List Token → Read A) (S : Lang A) (G : Kind → Bool) → ((ts : List Token) → q ts ≡ r ts) → Reads r S G → Reads q S G
same_reader r q S G e law = record {
  some = law.some;
  sound = λ ts us x h. law.sound ts us x (sym (e ts) ∙ h);
  viable = λ ts n h. law.viable ts n (sym (e ts) ∙ h);
  got = λ ts us w k x y n h. law.got ts us w k x y n (sym (e ts) ∙ h);
  stuck = λ ts w k y n h. law.stuck ts w k y n (sym (e ts) ∙ h);
}

-- and of every language with the same spellings
pub respell : {A : Type 0} (r : List Token → Read A) (S T : Lang A) (G : Kind → Bool) → ((w : List Token) (x : A) → S w x → T w x)
    → ((w : List Token) (x : A) → T w x → S w x) → Reads r S G → Reads r T G
respell r S T G to from law = record {
  some = let a = law.some in (a.0, a.1, to a.0 a.1 a.2);
  sound = λ ts us x h. let a = law.sound ts us x h in (a.0, a.1, to a.0 x a.2);
  viable = λ ts n h. let a = law.viable ts n h in (a.0, a.1, a.2, a.3, a.4, a.5, to (a.0 ++ a.4) a.5 a.6);
  got = λ ts us w k x y n h l s. law.got ts us w k x y n h l (from w y s);
  stuck = λ ts w k y n h s. law.stuck ts w k y n h (from w y s);
}

pub avoids_less : (G H : Kind → Bool) → Sub G H → (k : List Token) → Avoids H k → Avoids G k
avoids_less G H i [] a = tt
avoids_less G H i (t ∷ k) a = λ g. a (i t.kind g)

-- what takes less takes no more
pub widen : {A : Type 0} (r : List Token → Read A) (S : Lang A) (G H : Kind → Bool) → Sub G H → Reads r S G → Reads r S H
widen r S G H i law = record {
  some = law.some;
  sound = law.sound;
  viable = law.viable;
  got = λ ts us w k x y n h l s a. law.got ts us w k x y n h l s (avoids_less G H i k a);
  stuck = λ ts w k y n h s a. law.stuck ts w k y n h s (avoids_less G H i k a);
}

-- a reader that finds no end says nothing wrong
pub never : {A : Type 0} (S : Lang A) (G : Kind → Bool) (w : List Token) (x : A) → S w x → Reads (λ ts. Deep) S G
never S G w x s = record {
  some = (w, x, s);
  sound = λ ts us y e. deep_or_got e;
  viable = λ ts n e. deep_or_stuck e;
  got = λ ts us v k y z n e. deep_or_got e;
  stuck = λ ts v k y n e. deep_or_stuck e;
}

-- one token of these kinds
abbrev pub One : {A : Type 0} → (Kind → Bool) → (Token → A) → Lang A
One p value w x = (t : Token) × (w ≡ t ∷ []) × Is (p t.kind) × (x ≡ value t)

-- some token of the kind
abbrev pub token_of : Kind → Token
token_of k = record { kind = k; start = 0; end = 0; place = record { line = 1; col = 1 } }

pub true_is : (b : Bool) → b ≡ true → Is b
true_is b e = subst Is (sym e) tt

pub false_is : (b : Bool) → b ≡ false → Is b → ⊥
false_is b e h = subst Is e h

pub one : {A : Type 0} (p : Kind → Bool) (value : Token → A) (G : Kind → Bool) (k : Kind) → Is (p k) → Reads (take_at p value) (One p value) G
one {A} p value G kind is = record {
  some = (token_of kind ∷ [], value (token_of kind), (token_of kind, refl, is, refl));
  sound = sound;
  viable = viable;
  got = got;
  stuck = stuck;
}
  where
    sound : (ts us : List Token) (y : A) → take_at p value ts ≡ Got y us → (used : List Token) × (ts ≡ used ++ us) × One p value used y
    sound [] us y e = stuck_or_got e
    sound (s ∷ ts) us y e = by (p s.kind) refl e
      where
        by : (b : Bool) → p s.kind ≡ b → pick b (Got (value s) ts) (Stuck (length (s ∷ ts))) ≡ Got y us
            → (used : List Token) × (s ∷ ts ≡ used ++ us) × One p value used y
        by true h e = (s ∷ [], ap (λ v. s ∷ v) (got_list e), (s, refl, true_is (p s.kind) h, sym (got_value e)))
        by false h e = stuck_or_got e

    viable : (ts : List Token) (n : ℕ) → take_at p value ts ≡ Stuck n
        → (f g : List Token) × (ts ≡ f ++ g) × (length g ≡ n) × (v : List Token) × (y : A) × One p value (f ++ v) y
    viable [] n e = ([], [], refl, stuck_left e, token_of kind ∷ [], value (token_of kind), (token_of kind, refl, is, refl))
    viable (s ∷ ts) n e = by (p s.kind) e
      where
        by : (b : Bool) → pick b (Got (value s) ts) (Stuck (length (s ∷ ts))) ≡ Stuck n
            → (f g : List Token) × (s ∷ ts ≡ f ++ g) × (length g ≡ n) × (v : List Token) × (y : A) × One p value (f ++ v) y
        by true e = got_or_stuck e
        by false e = ([], s ∷ ts, refl, stuck_left e, token_of kind ∷ [], value (token_of kind), (token_of kind, refl, is, refl))

    got : (ts us w k : List Token) (y z : A) (n : ℕ) → take_at p value ts ≡ Got y us → n ≤ length us → One p value w z → Avoids G k
        → Upto ts n (w ++ k) → (ts ≡ w ++ us) × (z ≡ y)
    got [] us w k y z n e h s a u = stuck_or_got e
    got (s ∷ ts) us w k y z n e h d a u = by (p s.kind) e
      where
        same : s ≡ d.0
        same = (subst (λ v. Upto (s ∷ ts) n (v ++ k)) d.1 u).0

        by : (b : Bool) → pick b (Got (value s) ts) (Stuck (length (s ∷ ts))) ≡ Got y us → (s ∷ ts ≡ w ++ us) × (z ≡ y)
        by true e = ((λ i. same i ∷ got_list e i) ∙ ap (λ v. v ++ us) (sym d.1), d.3 ∙ ap value (sym same) ∙ got_value e)
        by false e = stuck_or_got e

    stuck : (ts w k : List Token) (z : A) (n : ℕ) → take_at p value ts ≡ Stuck n → One p value w z → Avoids G k → Upto ts n (w ++ k) → ⊥
    stuck [] w k z n e d a u = subst (λ v. Upto [] n (v ++ k)) d.1 u
    stuck (s ∷ ts) w k z n e d a u = by (p s.kind) refl e
      where
        same : s ≡ d.0
        same = (subst (λ v. Upto (s ∷ ts) n (v ++ k)) d.1 u).0

        by : (b : Bool) → p s.kind ≡ b → pick b (Got (value s) ts) (Stuck (length (s ∷ ts))) ≡ Stuck n → ⊥
        by true h e = got_or_stuck e
        by false h e = false_is (p s.kind) h (subst (λ t. Is (p t.kind)) (sym same) d.2)

-- a choice by the first token: the one way where it is in p, and the other where not
abbrev pub Or : {A : Type 0} → Lang A → Lang A → Lang A
Or S T w x = S w x ⊎ T w x

module _ {A : Type 0} (p : Kind → Bool) (r q : List Token → Read A) (S T : Lang A) (G : Kind → Bool) (yes : Reads r S G) (no : Reads q T G) (starts : (w : List Token) (x : A) → S w x → Front p w) (avoids : (w : List Token) (x : A) → T w x → Avoids p w) (ends : (x : A) → T [] x → Sub p G) where
  pub choice : Reads (choose p r q) (Or S T) G
  choice = record {
    some = let a = yes.some in (a.0, a.1, inl a.2);
    sound = sound;
    viable = viable;
    got = got;
    stuck = stuck;
  }
    where
      -- a spelling of the other kind does not agree
      not_yes : (s : Token) (ts w k : List Token) (x : A) (n : ℕ) → (Is (p s.kind) → ⊥) → S w x → Upto (s ∷ ts) n (w ++ k) → ⊥
      not_yes s ts w k x n h d u = by w (starts w x d) u
        where
          by : (w : List Token) → Front p w → Upto (s ∷ ts) n (w ++ k) → ⊥
          by [] f u = f
          by (z ∷ w) f u = h (subst (λ v. Is (p v.kind)) (sym u.0) f)

      nothing : (w k : List Token) (x : A) (n : ℕ) → S w x → Upto [] n (w ++ k) → ⊥
      nothing w k x n d u = by w (starts w x d) u
        where
          by : (w : List Token) → Front p w → Upto [] n (w ++ k) → ⊥
          by [] f u = f
          by (z ∷ w) f u = u

      not_no : (s : Token) (ts w k : List Token) (x : A) (n : ℕ) → Is (p s.kind) → T w x → Avoids G k → Upto (s ∷ ts) n (w ++ k) → ⊥
      not_no s ts w k x n h d a u = by w d (avoids w x d) u
        where
          at_end : (k : List Token) → T [] x → Avoids G k → Upto (s ∷ ts) n k → ⊥
          at_end [] d a u = u
          at_end (z ∷ k) d a u = a (ends x d z.kind (subst (λ v. Is (p v.kind)) u.0 h))

          by : (w : List Token) → T w x → Avoids p w → Upto (s ∷ ts) n (w ++ k) → ⊥
          by [] d f u = at_end k d a u
          by (z ∷ w) d f u = f (subst (λ v. Is (p v.kind)) u.0 h)

      sound : (ts us : List Token) (x : A) → choose p r q ts ≡ Got x us → (used : List Token) × (ts ≡ used ++ us) × Or S T used x
      sound [] us x e = let a = no.sound [] us x e in (a.0, a.1, inr a.2)
      sound (s ∷ ts) us x e = by (p s.kind) e
        where
          by : (b : Bool) → pick b (r (s ∷ ts)) (q (s ∷ ts)) ≡ Got x us → (used : List Token) × (s ∷ ts ≡ used ++ us) × Or S T used x
          by true e = let a = yes.sound (s ∷ ts) us x e in (a.0, a.1, inl a.2)
          by false e = let a = no.sound (s ∷ ts) us x e in (a.0, a.1, inr a.2)

      viable : (ts : List Token) (n : ℕ) → choose p r q ts ≡ Stuck n
          → (f g : List Token) × (ts ≡ f ++ g) × (length g ≡ n) × (v : List Token) × (x : A) × Or S T (f ++ v) x
      viable [] n e = let a = no.viable [] n e in (a.0, a.1, a.2, a.3, a.4, a.5, inr a.6)
      viable (s ∷ ts) n e = by (p s.kind) e
        where
          by : (b : Bool) → pick b (r (s ∷ ts)) (q (s ∷ ts)) ≡ Stuck n
              → (f g : List Token) × (s ∷ ts ≡ f ++ g) × (length g ≡ n) × (v : List Token) × (x : A) × Or S T (f ++ v) x
          by true e = let a = yes.viable (s ∷ ts) n e in (a.0, a.1, a.2, a.3, a.4, a.5, inl a.6)
          by false e = let a = no.viable (s ∷ ts) n e in (a.0, a.1, a.2, a.3, a.4, a.5, inr a.6)

      got : (ts us w k : List Token) (x y : A) (n : ℕ) → choose p r q ts ≡ Got x us → n ≤ length us → Or S T w y → Avoids G k → Upto ts n (w ++ k)
          → (ts ≡ w ++ us) × (y ≡ x)
      got [] us w k x y n e h (inl d) a u = absurd (nothing w k y n d u)
      got [] us w k x y n e h (inr d) a u = no.got [] us w k x y n e h d a u
      got (s ∷ ts) us w k x y n e h d a u = by (p s.kind) refl e d
        where
          by : (b : Bool) → p s.kind ≡ b → pick b (r (s ∷ ts)) (q (s ∷ ts)) ≡ Got x us → Or S T w y → (s ∷ ts ≡ w ++ us) × (y ≡ x)
          by true i e (inl d) = yes.got (s ∷ ts) us w k x y n e h d a u
          by true i e (inr d) = absurd (not_no s ts w k y n (true_is (p s.kind) i) d a u)
          by false i e (inl d) = absurd (not_yes s ts w k y n (false_is (p s.kind) i) d u)
          by false i e (inr d) = no.got (s ∷ ts) us w k x y n e h d a u

      stuck : (ts w k : List Token) (y : A) (n : ℕ) → choose p r q ts ≡ Stuck n → Or S T w y → Avoids G k → Upto ts n (w ++ k) → ⊥
      stuck [] w k y n e (inl d) a u = nothing w k y n d u
      stuck [] w k y n e (inr d) a u = no.stuck [] w k y n e d a u
      stuck (s ∷ ts) w k y n e d a u = by (p s.kind) refl e d
        where
          by : (b : Bool) → p s.kind ≡ b → pick b (r (s ∷ ts)) (q (s ∷ ts)) ≡ Stuck n → Or S T w y → ⊥
          by true i e (inl d) = yes.stuck (s ∷ ts) w k y n e d a u
          by true i e (inr d) = not_no s ts w k y n (true_is (p s.kind) i) d a u
          by false i e (inl d) = not_yes s ts w k y n (false_is (p s.kind) i) d u
          by false i e (inr d) = no.stuck (s ∷ ts) w k y n e d a u

-- what is read, made into another value
abbrev pub Mapped : {A B : Type 0} → Lang A → (A → B) → Lang B
Mapped {A} S g w z = (x : A) × S w x × (z ≡ g x)

pub mapped : {A B : Type 0} (r : List Token → Read A) (g : A → B) (S : Lang A) (G : Kind → Bool) → Reads r S G
    → Reads (λ ts. r ts >>= λ x us. Got (g x) us) (Mapped S g) G
mapped {A} {B} r g S G law = respell (λ ts. r ts >>= λ x us. Got (g x) us) (Then S (λ x. End (g x))) (Mapped S g) G
    (λ w z s. (s.0, subst (λ m. S m s.0) (sym (s.5 ∙ ap (λ m. s.1 ++ m) s.4.0 ∙ append-nil s.1)) s.3, s.4.1))
    (λ w z s. (s.0, w, [], s.1, (refl, s.2), sym (append-nil w)))
    (both r (λ x us. Got (g x) us) S (λ x. End (g x)) G G law (λ x. empty (g x) G) (λ x w k z s a. subst (λ m. Avoids G (m ++ k)) (sym s.0) a))

pub no_none : (p : Kind → Bool) → Apart p none
no_none p k f g = g

pub avoids_none : (k : List Token) → Avoids none k
avoids_none [] = tt
avoids_none (t ∷ k) = λ g. g

pub front_append : (p : Kind → Bool) (u v : List Token) → Front p u → Front p (u ++ v)
front_append p [] v f = absurd f
front_append p (t ∷ u) v f = f

pub front_less : (p q : Kind → Bool) → Sub p q → (w : List Token) → Front p w → Front q w
front_less p q sub [] f = f
front_less p q sub (t ∷ w) f = sub t.kind f

pub then_starts : {A B : Type 0} (S : Lang A) (T : A → Lang B) (p : Kind → Bool) → ((w : List Token) (x : A) → S w x → Front p w)
    → (w : List Token) (z : B) → Then S T w z → Front p w
then_starts S T p h w z s = subst (Front p) (sym s.5) (front_append p s.1 s.2 (h s.1 s.0 s.3))

-- what begins with one of these does not go on what takes others
pub front_avoids : (p G : Kind → Bool) → Apart p G → (w k : List Token) → Front p w → Avoids G (w ++ k)
front_avoids p G h [] k f = absurd f
front_avoids p G h (t ∷ w) k f = λ g. h t.kind f g
