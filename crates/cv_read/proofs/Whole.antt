-- What the law of a reader says of a whole text.
use Rattle.std.proofs.Common.{◌≡◌, ℕ, suc, ◌+◌, ◌<◌, Bool, List, [], ◌∷◌, ◌++◌, length, refl, sym, ◌∙◌, ap, subst, arith, append_assoc, append-nil, length-append, ◌⊎◌, inl, inr}
use Rattle.easl_model.specs.{Ends}
use Rattle.easl_model.specs.declared.token.Kind.{Kind}
use Rattle.easl_model.specs.declared.token.Token.{Token}
use Rattle.cv_read.specs.{Deep, Got, Stuck, WrongAt, done_at, whole_at, ◌>>=◌}
use Rattle.cv_read.specs.Read.{Read}
use Rattle.cv_read.proofs.Lefts.{fronts, order}
use Rattle.cv_read.proofs.Laws.{Lang, Upto, Reads, got_value, stuck_left, got_or_stuck, stuck_or_got, deep_or_got, deep_or_stuck}

-- a text agrees with itself
pub upto_self : (ts : List Token) (n : ℕ) → Upto ts n ts
upto_self [] n = tt
upto_self (t ∷ ts) n = (refl, inr (upto_self ts n))

-- and with each text with the same tokens up to the one where n are left
pub upto_front : (p : List Token) (t : Token) (q v : List Token) (n : ℕ) → suc (length q) ≡ n → Upto (p ++ t ∷ q) n (p ++ t ∷ v)
upto_front [] t q v n e = (refl, inl (sym e))
upto_front (z ∷ p) t q v n e = (refl, inr (upto_front p t q v n e))

longer_nil : (w us : List Token) → w ≡ w ++ us → us ≡ []
longer_nil w [] e = refl
longer_nil w (t ∷ us) e = let l : length w ≡ length w + length (t ∷ us) = ap length e ∙ length-append w (t ∷ us) in absurd (omega arith)

module _ {A : Type 0} (r : List Token → Read A) (S : Lang A) (G : Kind → Bool) (law : Reads r S G) where
  -- what is read is spelled
  pub read_spells : (ts : List Token) (x : A) → whole_at r ts ≡ Got x [] → S ts x
  read_spells ts x e = by (r ts) refl e
    where
      by_end : (y : A) (us : List Token) → r ts ≡ Got y us → done_at y us ≡ Got x [] → S ts x
      by_end y [] p e =
          let a = law.sound ts [] y p in
          let q : ts ≡ a.0 = a.1 ∙ append-nil a.0 in
          subst (S ts) (got_value e) (subst (λ (m : List Token). S m y) (sym q) a.2)
      by_end y (t ∷ us) p e = stuck_or_got e

      by : (o : Read A) → r ts ≡ o → (o >>= λ x us. done_at x us) ≡ Got x [] → S ts x
      by (Got y us) p e = by_end y us p e
      by (Stuck n) p e = stuck_or_got e
      by Deep p e = deep_or_got e

  -- what is spelled is read, where the reader comes to an end
  pub spelled_reads : (ts : List Token) (x : A) → (r ts ≡ Deep → ⊥) → S ts x → whole_at r ts ≡ Got x []
  spelled_reads ts x d s = by (r ts) refl
    where
      self : (n : ℕ) → Upto ts n (ts ++ [])
      self n = subst (Upto ts n) (sym (append-nil ts)) (upto_self ts n)

      by : (o : Read A) → r ts ≡ o → (o >>= λ x us. done_at x us) ≡ Got x []
      by (Got y us) p =
          let g = law.got ts us ts [] y x 0 p (omega arith) s tt (self 0) in
          subst (λ m. done_at y m ≡ Got x []) (sym (longer_nil ts us g.0)) (ap (λ z. Got z []) (sym g.1))
      by (Stuck n) p = absurd (law.stuck ts ts [] x n p s tt (self n))
      by Deep p = absurd (d p)

  pub spells_one : (ts : List Token) (x y : A) → (r ts ≡ Deep → ⊥) → S ts x → S ts y → x ≡ y
  spells_one ts x y d s t = got_value (sym (spelled_reads ts x d s) ∙ spelled_reads ts y d t)

  -- it stops at the first wrong token
  pub stops_first : (ts : List Token) (n : ℕ) → whole_at r ts ≡ Stuck n → WrongAt S ts n
  stops_first ts n e = by (r ts) refl e
    where
      by_end : (y : A) (us : List Token) → r ts ≡ Got y us → done_at y us ≡ Stuck n → WrongAt S ts n
      by_end y [] p e = got_or_stuck e
      by_end y (t ∷ us) p e =
          let a = law.sound ts (t ∷ us) y p in (
            a.0,
            t ∷ us,
            a.1,
            stuck_left e,
            record {
              begins = ([], y, subst (λ (m : List Token). S m y) (sym (append-nil a.0)) a.2);
              ends = λ b.
                  let w : ((a.0 ++ t ∷ []) ++ b.0) ≡ (a.0 ++ t ∷ b.0) = append_assoc a.0 (t ∷ []) b.0 in
                  let up : Upto ts (suc (length us)) ((a.0 ++ t ∷ b.0) ++ []) = subst (λ m. Upto m (suc (length us)) ((a.0 ++ t ∷ b.0) ++ [])) (sym a.1) (subst (Upto (a.0 ++ t ∷ us) (suc (length us))) (sym (append-nil (a.0 ++ t ∷ b.0))) (upto_front a.0 t us b.0 (suc (length us)) refl)) in
                  let g = law.got ts (t ∷ us) (a.0 ++ t ∷ b.0) [] y b.1 (suc (length us)) p (omega arith) (subst (λ (m : List Token). S m b.1) w b.2) tt up in
                  let l : length a.0 + length (t ∷ us) ≡ length (a.0 ++ t ∷ b.0) + length (t ∷ us) = sym (length-append a.0 (t ∷ us)) ∙ ap length (sym a.1 ∙ g.0) ∙ length-append (a.0 ++ t ∷ b.0) (t ∷ us) in
                  let m : length (a.0 ++ t ∷ b.0) ≡ length a.0 + length (t ∷ b.0) = length-append a.0 (t ∷ b.0) in
                  absurd (omega arith);
            },
          )

      wrong : (f g : List Token) → ts ≡ f ++ g → length g ≡ n → r ts ≡ Stuck n → Ends S f g
      wrong f [] e l p = λ x s.
          let q : ts ≡ f = e ∙ append-nil f in
          law.stuck ts f [] x n p s tt (subst (λ m. Upto m n (f ++ [])) (sym q) (subst (Upto f n) (sym (append-nil f)) (upto_self f n)))
      wrong f (t ∷ g) e l p = λ b.
          law.stuck ts (f ++ t ∷ b.0) [] b.1 n p (subst (λ (m : List Token). S m b.1) (append_assoc f (t ∷ []) b.0) b.2) tt
          (subst (λ m. Upto m n ((f ++ t ∷ b.0) ++ [])) (sym e) (subst (Upto (f ++ t ∷ g) n) (sym (append-nil (f ++ t ∷ b.0))) (upto_front f t g b.0 n l)))

      by : (o : Read A) → r ts ≡ o → (o >>= λ x us. done_at x us) ≡ Stuck n → WrongAt S ts n
      by (Got y us) p e = by_end y us p e
      by (Stuck m) p e =
          let q : r ts ≡ Stuck n = p ∙ ap Stuck (stuck_left e) in
          let a = law.viable ts n q in
          (a.0, a.1, a.2, a.3, record { begins = (a.4, a.5, a.6); ends = wrong a.0 a.1 a.2 a.3 q })
      by Deep p e = deep_or_stuck e

  -- a list has one first wrong token at most, since what is longer begins no spelling
  pub unlike : (ts f g : List Token) (n : ℕ) → ts ≡ f ++ g → length g ≡ n → Ends S f g → (x : A) → S ts x → ⊥
  unlike ts f [] n e l h x s = h x (subst (λ (m : List Token). S m x) (e ∙ append-nil f) s)
  unlike ts f (t ∷ g) n e l h x s = h (g, x, subst (λ (m : List Token). S m x) (e ∙ sym (append_assoc f (t ∷ []) g)) s)

  later : (ts : List Token) (m n : ℕ) → WrongAt S ts m → WrongAt S ts n → m < n → ⊥
  later ts m n a b l = by b.1 b.2 b.3 b.4.ends
    where
      by : (g : List Token) → ts ≡ b.0 ++ g → length g ≡ n → Ends S b.0 g → ⊥
      by g e k h =
          let c = fronts b.0 g a.0 a.1 (sym e ∙ a.2) (let j : length a.1 ≡ m = a.3 in omega arith) in
          subst (Ends S b.0) c.3 h (c.2 ++ a.4.begins.0, a.4.begins.1, subst (λ (z : List Token). S z a.4.begins.1) (ap (λ z. z ++ a.4.begins.0) c.4 ∙ append_assoc b.0 (c.0 ∷ c.2) a.4.begins.0 ∙ sym (append_assoc b.0 (c.0 ∷ []) (c.2 ++ a.4.begins.0))) a.4.begins.2)

  pub wrong_one : (ts : List Token) (m n : ℕ) → WrongAt S ts m → WrongAt S ts n → m ≡ n
  wrong_one ts m n a b = by_order (order m n)
    where
      by_order : (m < n) ⊎ ((m ≡ n) ⊎ (n < m)) → m ≡ n
      by_order (inl l) = absurd (later ts m n a b l)
      by_order (inr (inl e)) = e
      by_order (inr (inr l)) = absurd (later ts n m b a l)
