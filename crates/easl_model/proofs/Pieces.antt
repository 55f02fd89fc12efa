-- Of one text at most one gap or longest token is the front.
use Rattle.std.proofs.Common.{◌≡◌, ◌≢◌, ℕ, ◌⊎◌, inl, inr, List, [], ◌∷◌, ◌++◌, codes, IsTrue, refl, sym, ap, ◌∙◌, subst, arith, append_assoc, append-nil}
use Rattle.std.specs.List.{AllByRecursion}
use Rattle.easl_model.specs.declared.token.Kind.{Kind}
use Rattle.easl_model.specs.declared.token.Kind.TheVariants as kind
use Rattle.easl_model.specs.{EndsLine, IsGap, IsLongest, IsToken, comment, is_white, line_comment, line_end, white}
use Rattle.easl_model.proofs.Words.{Others, group_of, group_at, group_white, begins_token, token_some, one_kind}

-- the first goes on for m where the second ends
abbrev pub Longer : List ℕ → List ℕ → List ℕ → List ℕ → Type 0
Longer p r q s = (m : List ℕ) × (p ≡ q ++ m) × (s ≡ m ++ r)

pub aligned : (p r q s : List ℕ) → p ++ r ≡ q ++ s → Longer p r q s ⊎ Longer q s p r
aligned [] r q s e = inr (q, refl, e)
aligned (a ∷ p) r [] s e = inl (a ∷ p, refl, sym e)
aligned (a ∷ p) r (b ∷ q) s e =
    let same : a ≡ b = cc in
    let rest : p ++ r ≡ q ++ s = cc in
    elim (aligned p r q s rest) [
      | inl w ↦ inl (w.0, (let f : p ≡ q ++ w.0 = w.1 in cc), w.2)
      | inr w ↦ inr (w.0, (let f : q ≡ p ++ w.0 = w.1 in cc), w.2)
    ]

nothing_more : (p r q s : List ℕ) → (w : Longer p r q s) → w.0 ≡ [] → p ≡ q
nothing_more p r q s w e = w.1 ∙ ap (λ m. q ++ m) e ∙ append-nil q

-- where the characters are the same
pub one_longest : (j k : Kind) (p r q s : List ℕ) → IsLongest j p r → IsLongest k q s → p ++ r ≡ q ++ s → p ≡ q
one_longest j k p r q s a b e = elim (aligned p r q s e) [
  | inl w ↦ nothing_more p r q s w (b.longest j w.0 r w.2 (subst (IsToken j) w.1 a.is_token))
  | inr w ↦ sym (nothing_more q s p r w (a.longest k w.0 s w.2 (subst (IsToken k) w.1 b.is_token)))
]

pub one_token : (j k : Kind) (cs : List ℕ) → IsToken j cs → IsToken k cs → j ≡ k
one_token j k [] t u = absurd (token_some j t)
one_token j k (c ∷ cs) t u = one_kind j k c cs t u

pub gap_begins : (c : ℕ) (cs rest : List ℕ) → IsGap (c ∷ cs) rest → group_at c ≡ Others
unfolding group_at
gap_begins c cs rest (white d r h) = group_white c h
gap_begins c cs rest (line_comment ds r h i) = refl
gap_begins c cs rest (comment ds r h) = refl

pub gap_some : (rest : List ℕ) → IsGap [] rest → ⊥
gap_some rest g = elim g [ ]

pub not_others : (k : Kind) → group_of k ≡ Others → ⊥
not_others kind.Name e = cc
not_others kind.Number e = cc
not_others kind.Text e = cc
not_others (kind.Key k) e = cc
not_others (kind.Mark m) e = cc

-- no token begins where a gap begins
pub apart : (k : Kind) (p r q s : List ℕ) → IsToken k p → IsGap q s → p ++ r ≡ q ++ s → ⊥
apart k [] r q s t g e = token_some k t
apart k (c ∷ p) r [] s t g e = gap_some s g
apart k (c ∷ p) r (d ∷ q) s t g e =
    let same : c ≡ d = cc in
    not_others k (sym (begins_token k c p t) ∙ ap group_at same ∙ gap_begins d q s g)

slash_is_not_white : (c : ℕ) → IsTrue (is_white c) → c ≡ 47 → ⊥
slash_is_not_white c h e = let f : IsTrue (is_white 47) = subst (λ x. IsTrue (is_white x)) e h in cc

one_line : (cs r ds s : List ℕ) → AllByRecursion (λ c. c ≢ line_end) cs → EndsLine r → AllByRecursion (λ c. c ≢ line_end) ds → EndsLine s
    → cs ++ r ≡ ds ++ s → cs ≡ ds
one_line [] r [] s h i j k e = refl
one_line [] [] (d ∷ ds) s h i j k e = cc
one_line [] (c ∷ r) (d ∷ ds) s h i j k e = absurd (j.0 (let f : d ≡ c = cc in f ∙ i))
one_line (c ∷ cs) r [] [] h i j k e = cc
one_line (c ∷ cs) r [] (d ∷ s) h i j k e = absurd (h.0 (let f : c ≡ d = cc in f ∙ k))
one_line (c ∷ cs) r (d ∷ ds) s h i j k e =
    let rest : cs ≡ ds = one_line cs r ds s h.1 i j.1 k (let f : cs ++ r ≡ ds ++ s = cc in f) in
    cc

-- no end of a comment stands in these characters and a star behind them
abbrev NoEnd : List ℕ → Type 0
NoEnd cs = (p q : List ℕ) → cs ++ codes "*" ≡ p ++ codes "*/" ++ q → ⊥

no_more : (cs ds m r s : List ℕ) → NoEnd cs → cs ≡ ds ++ m → 42 ∷ 47 ∷ s ≡ m ++ 42 ∷ 47 ∷ r → m ≡ []
no_more cs ds [] r s none e f = refl
no_more cs ds (a ∷ []) r s none e f = let g : ◌≡◌ {A = ℕ} 47 42 = cc in absurd (omega arith)
no_more cs ds (a ∷ b ∷ m) r s none e f =
    let first : 42 ≡ a = cc in
    let second : 47 ≡ b = cc in
    absurd (none ds (m ++ codes "*") (ap (λ x. x ++ codes "*") (e ∙ ap (λ x. ds ++ x ∷ b ∷ m) (sym first) ∙ ap (λ x. ds ++ 42 ∷ x ∷ m) (sym second)) ∙ by))
  where
    by : (ds ++ 42 ∷ 47 ∷ m) ++ codes "*" ≡ (ds ++ codes "*/") ++ (m ++ codes "*")
    by = append_assoc ds (42 ∷ 47 ∷ m) (codes "*") ∙ sym (append_assoc ds (codes "*/") (m ++ codes "*"))

one_comment : (cs r ds s : List ℕ) → NoEnd cs → NoEnd ds → (cs ++ codes "*/") ++ r ≡ (ds ++ codes "*/") ++ s → cs ≡ ds
one_comment cs r ds s h i e =
    let f : cs ++ 42 ∷ 47 ∷ r ≡ ds ++ 42 ∷ 47 ∷ s = sym (append_assoc cs (codes "*/") r) ∙ e ∙ append_assoc ds (codes "*/") s in
    elim (aligned cs (42 ∷ 47 ∷ r) ds (42 ∷ 47 ∷ s) f) [
      | inl w ↦ nothing_more cs (42 ∷ 47 ∷ r) ds (42 ∷ 47 ∷ s) w (no_more cs ds w.0 r s h w.1 w.2)
      | inr w ↦ sym (nothing_more ds (42 ∷ 47 ∷ s) cs (42 ∷ 47 ∷ r) w (no_more ds cs w.0 s r i w.1 w.2))
    ]

pub one_gap : (p r q s : List ℕ) → IsGap p r → IsGap q s → p ++ r ≡ q ++ s → p ≡ q
one_gap _ _ _ _ (white c r h) (white d s i) e = cc
one_gap _ _ _ _ (white c r h) (line_comment ds s i j) e = absurd (slash_is_not_white c h (let f : c ≡ 47 = cc in f))
one_gap _ _ _ _ (white c r h) (comment ds s i) e = absurd (slash_is_not_white c h (let f : c ≡ 47 = cc in f))
one_gap _ _ _ _ (line_comment cs r h i) (white d s j) e = absurd (slash_is_not_white d j (let f : d ≡ 47 = cc in f))
one_gap _ _ _ _ (line_comment cs r h i) (line_comment ds s j k) e = ap (λ x. codes "//" ++ x) (one_line cs r ds s h i j k (let f : cs ++ r ≡ ds ++ s = cc in f))
one_gap _ _ _ _ (line_comment cs r h i) (comment ds s j) e = let f : ◌≡◌ {A = ℕ} 47 42 = cc in absurd (omega arith)
one_gap _ _ _ _ (comment cs r h) (white d s i) e = absurd (slash_is_not_white d i (let f : d ≡ 47 = cc in f))
one_gap _ _ _ _ (comment cs r h) (line_comment ds s i j) e = let f : ◌≡◌ {A = ℕ} 47 42 = cc in absurd (omega arith)
one_gap _ _ _ _ (comment cs r h) (comment ds s i) e = ap (λ x. codes "/*" ++ x ++ codes "*/") (one_comment cs r ds s h i (let f : (cs ++ codes "*/") ++ r ≡ (ds ++ codes "*/") ++ s = cc in f))
