-- Where so many tokens are left.
use Rattle.std.proofs.Common.{◌≡◌, ℕ, zero, suc, ◌+◌, ◌-◌, ◌<◌, List, [], ◌∷◌, ◌++◌, length, drop, refl, sym, ◌∙◌, ap, subst, arith, length-append, ◌⊎◌, inl, inr}
use Rattle.easl_model.specs.{Shallow, first_place, level_after, turned}
use Rattle.easl_model.specs.declared.token.Token.{Token}
use Rattle.easl_model.specs.declared.token.Tokens.{Tokens}
use Rattle.cv_read.specs.{DeepAt, place_where}
use Rattle.cv_read.proofs.Depth.{shallow_append}

drop_front : (p q : List Token) → drop (length p) (p ++ q) ≡ q
drop_front [] q = refl
drop_front (t ∷ p) q = drop_front p q

-- the place there is that of the first one left
pub place_left : (x : Tokens) (p q : List Token) (left : ℕ) → x.list ≡ p ++ q → length q ≡ left → place_where x left ≡ first_place x.end q
place_left x p q left e l =
    let n : length x.list - left ≡ length p = let k = ap length e ∙ length-append p q in omega arith in
    ap (first_place x.end) (ap (λ k. drop k x.list) n ∙ ap (drop (length p)) e ∙ drop_front p q)

-- no text is shallow and too deep
pub shallow_not_deep : (p : List Token) (t : Token) (q : List Token) → Shallow (p ++ t ∷ q) → 64 < turned (level_after 0 p) t.kind → ⊥
shallow_not_deep p t q s d = let h = (shallow_append 64 0 p (t ∷ q) s).0 in omega arith

-- of two fronts the shorter stands in the longer, with the next token
pub fronts : (p q r s : List Token) → p ++ q ≡ r ++ s → length s < length q → (t : Token) × (u m : List Token) × (q ≡ t ∷ u) × (r ≡ p ++ t ∷ m)
fronts p [] r s e l = absurd (omega arith)
fronts [] (t ∷ q) [] s e l = let k : length (t ∷ q) ≡ length s = ap length e in absurd (omega arith)
fronts [] (t ∷ q) (z ∷ r) s e l = (t, q, r, refl, cc)
fronts (y ∷ p) (t ∷ q) [] s e l = let k : suc (length (p ++ t ∷ q)) ≡ length s = ap length e in let j : length (p ++ t ∷ q) ≡ length p + suc (length q) = length-append p (t ∷ q) in absurd (omega arith)
fronts (y ∷ p) (t ∷ q) (z ∷ r) s e l =
    let a = fronts p (t ∷ q) r s (cc) l in
    let same : y ≡ z = cc in
    (a.0, a.1, a.2, a.3, (λ i. sym same i ∷ a.4 i))

later : (ts : List Token) (m n : ℕ) → DeepAt ts m → DeepAt ts n → m < n → ⊥
later ts m n a b l =
    let c = fronts b.0 (b.1 ∷ b.2) a.0 (a.1 ∷ a.2) (sym b.3 ∙ a.3) (let j : length (a.1 ∷ a.2) ≡ m = a.4 in let k : length (b.1 ∷ b.2) ≡ n = b.4 in omega arith) in
    let same : b.1 ≡ c.0 = cc in
    shallow_not_deep b.0 b.1 c.2 (subst Shallow (c.4 ∙ ap (λ t. b.0 ++ t ∷ c.2) (sym same)) a.5.shallow) b.5.deep

pub order : (m n : ℕ) → (m < n) ⊎ ((m ≡ n) ⊎ (n < m))
order zero zero = inr (inl refl)
order zero (suc n) = inl (omega arith)
order (suc m) zero = inr (inr (omega arith))
order (suc m) (suc n) = up (order m n)
  where
    up : (m < n) ⊎ ((m ≡ n) ⊎ (n < m)) → (suc m < suc n) ⊎ ((suc m ≡ suc n) ⊎ (suc n < suc m))
    up (inl h) = inl (omega arith)
    up (inr (inl h)) = inr (inl (ap suc h))
    up (inr (inr h)) = inr (inr (omega arith))

-- at one place alone it comes to be too deep
pub one_deep : (ts : List Token) (m n : ℕ) → DeepAt ts m → DeepAt ts n → m ≡ n
one_deep ts m n a b = by (order m n)
  where
    by : (m < n) ⊎ ((m ≡ n) ⊎ (n < m)) → m ≡ n
    by (inl l) = absurd (later ts m n a b l)
    by (inr (inl e)) = e
    by (inr (inr l)) = absurd (later ts n m b a l)
