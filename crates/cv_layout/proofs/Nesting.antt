-- What is printed nests no deeper than what was read.
use Rattle.std.proofs.Common.{◌≡◌, ◌≢◌, ℕ, zero, suc, pred, ◌≤◌, List, [], ◌∷◌, ◌++◌, refl, sym, ap, ◌∙◌, subst, arith}
use Rattle.easl_model.specs.{IsKey, IsMark, IsName, IsToken, StaysShallow, level_after, mark_text, turned, word_of}
use Rattle.easl_model.specs.declared.token.Key.{Key}
use Rattle.easl_model.specs.declared.token.Kind.{Kind}
use Rattle.easl_model.specs.declared.token.Kind.TheVariants as kind
use Rattle.easl_model.specs.declared.token.Mark.{Mark}
use Rattle.easl_model.specs.declared.token.Mark.TheVariants as sign
use Rattle.easl_model.specs.declared.token.Token.{Token}
use Rattle.easl_model.specs.declared.tree.Word.{Word}
use Rattle.easl_model.proofs.Pieces.{one_token}
use Rattle.cv_layout.specs.{AreOf, IsOf, Lexeme, key, mark, named, word}
use Rattle.cv_layout.proofs.Printed.{IsWritten}
use Rattle.cv_layout.proofs.Single.{is_mark, is_key}

-- how many brackets are unclosed behind one more token that is printed
abbrev pub level_by : ℕ → Lexeme → ℕ
level_by b (mark m) = turned b (kind.Mark m)
level_by b x = b

abbrev pub level_of : ℕ → List Lexeme → ℕ
level_of b [] = b
level_of b (x ∷ xs) = level_of (level_by b x) xs

abbrev pub IsNoMark : Lexeme → Type 0
IsNoMark (word cs) = (m : Mark) → cs ≢ mark_text m
IsNoMark x = Unit {0}

abbrev pub Narrow : ℕ → ℕ → List Lexeme → Type 0
Narrow most b [] = Unit {0}
Narrow most b (x ∷ xs) = IsNoMark x × (level_by b x ≤ most) × Narrow most (level_by b x) xs

-- both close what they open, and what is printed nests no deeper than the text
pub record Nests (ts : List Token) (xs : List Lexeme) : Type 0 where
  pub text_even : (b : ℕ) → level_after b ts ≡ b
  pub even : (b : ℕ) → level_of b xs ≡ b
  pub narrow : (most b : ℕ) → StaysShallow most b ts → Narrow most b xs

text_level : (b : ℕ) (ts us : List Token) → level_after b (ts ++ us) ≡ level_after (level_after b ts) us
text_level b [] us = refl
text_level b (t ∷ ts) us = text_level (turned b t.kind) ts us

pub level_append : (b : ℕ) (xs ys : List Lexeme) → level_of b (xs ++ ys) ≡ level_of (level_of b xs) ys
level_append b [] ys = refl
level_append b (x ∷ xs) ys = level_append (level_by b x) xs ys

stays_parts : (most b : ℕ) (ts us : List Token) → StaysShallow most b (ts ++ us) → StaysShallow most b ts × StaysShallow most (level_after b ts) us
stays_parts most b [] us s = (tt, s)
stays_parts most b (t ∷ ts) us s = let r = stays_parts most (turned b t.kind) ts us s.1 in ((s.0, r.0), r.1)

narrow_both : (most b : ℕ) (xs ys : List Lexeme) → Narrow most b xs → Narrow most (level_of b xs) ys → Narrow most b (xs ++ ys)
narrow_both most b [] ys m n = n
narrow_both most b (x ∷ xs) ys m n = (m.0, m.1, narrow_both most (level_by b x) xs ys m.2 n)

narrow_front : (most b : ℕ) (xs ys : List Lexeme) → Narrow most b (xs ++ ys) → Narrow most b xs
narrow_front most b [] ys n = tt
narrow_front most b (x ∷ xs) ys n = (n.0, n.1, narrow_front most (level_by b x) xs ys n.2)

pred_less : (b c : ℕ) → b ≤ c → pred b ≤ pred c
pred_less zero c h = omega arith
pred_less (suc b) zero h = absurd (omega arith)
pred_less (suc b) (suc c) h = omega arith

level_less : (b c : ℕ) (x : Lexeme) → b ≤ c → level_by b x ≤ level_by c x
level_less b c (mark sign.Open) h = omega arith
level_less b c (mark sign.Begin) h = omega arith
level_less b c (mark sign.Close) h = pred_less b c h
level_less b c (mark sign.End) h = pred_less b c h
level_less b c x h = h

at_most : (a b c : ℕ) → a ≤ b → b ≤ c → a ≤ c
at_most a b c h k = omega arith

-- fewer open before, fewer open within
narrow_less : (most b c : ℕ) (xs : List Lexeme) → b ≤ c → Narrow most c xs → Narrow most b xs
narrow_less most b c [] h n = tt
narrow_less most b c (x ∷ xs) h n =
    let l = level_less b c x h in
    (n.0, at_most (level_by b x) (level_by c x) most l n.1, narrow_less most (level_by b x) (level_by c x) xs l n.2)

pub nests_nothing : Nests [] []
nests_nothing = record { text_even = λ b. refl; even = λ b. refl; narrow = λ most b s. tt }

pub nests_both : (ts us : List Token) (xs ys : List Lexeme) → Nests ts xs → Nests us ys → Nests (ts ++ us) (xs ++ ys)
nests_both ts us xs ys f g = record {
  text_even = λ b. text_level b ts us ∙ ap (λ c. level_after c us) (f.text_even b) ∙ g.text_even b;
  even = λ b. level_append b xs ys ∙ ap (λ c. level_of c ys) (f.even b) ∙ g.even b;
  narrow = λ most b s.
      let r = stays_parts most b ts us s in
      narrow_both most b xs ys (f.narrow most b r.0) (subst (λ c. Narrow most c ys) (sym (f.even b))
      (g.narrow most b (subst (λ c. StaysShallow most c us) (f.text_even b) r.1)));
}

-- a token that is no bracket
pub nests_flat : (t : Token) (x : Lexeme) → ((b : ℕ) → turned b t.kind ≡ b) → ((b : ℕ) → level_by b x ≡ b) → IsNoMark x → Nests (t ∷ []) (x ∷ [])
nests_flat t x e f n = record {
  text_even = e;
  even = f;
  narrow = λ most b s. (n, subst (λ c. c ≤ most) (e b ∙ sym (f b)) s.0, tt);
}

pub nests_key : (k : Key) (t : Token) → IsKey k t → Nests (t ∷ []) (key k ∷ [])
nests_key k t h = nests_flat t (key k) (λ b. ap (turned b) h.kind) (λ b. refl) tt

pub nests_mark : (m : Mark) (t : Token) → IsMark m t → ((b : ℕ) → turned b (kind.Mark m) ≡ b) → Nests (t ∷ []) (mark m ∷ [])
nests_mark m t h e = nests_flat t (mark m) (λ b. ap (turned b) h.kind ∙ e b) e tt

pub word_no_mark : (text : List ℕ) (t : Token) (w : Word) → IsWritten text t → w ≡ word_of text t → ((m : Mark) → t.kind ≡ kind.Mark m → ⊥) → IsNoMark
    (named w)
word_no_mark text t w a e n m f =
    n m (one_token t.kind (kind.Mark m) (mark_text m) (subst (IsToken t.kind) (ap (λ (v : Word). v.name) (sym e) ∙ f) a.is_token) refl)

pub nests_name : (text : List ℕ) (t : Token) (w : Word) → IsWritten text t → IsName text t w → Nests (t ∷ []) (named w ∷ [])
nests_name text t w a n =
    nests_flat t (named w) (λ b. ap (turned b) n.kind) (λ b. refl)
    (word_no_mark text t w a n.word (λ m e. let f : kind.Name ≡ kind.Mark m = sym n.kind ∙ e in cc))

round : (o c : Token) (m n : Mark) (ts : List Token) (xs : List Lexeme) → ((b : ℕ) → turned b o.kind ≡ suc b) → ((b : ℕ) → turned (suc b) c.kind ≡ b) →
    ((b : ℕ) → level_by b (mark m) ≡ suc b) → ((b : ℕ) → level_by (suc b) (mark n) ≡ b) → Nests ts xs → Nests (o ∷ ts ++ c ∷ []) (mark m ∷ xs ++ mark n ∷ [])
round o c m n ts xs p q r s f = record {
  text_even = λ b. ap (λ l. level_after l (ts ++ c ∷ [])) (p b) ∙ text_level (suc b) ts (c ∷ []) ∙ ap (λ l. turned l c.kind) (f.text_even (suc b)) ∙ q b;
  even = λ b. ap (λ l. level_of l (xs ++ mark n ∷ [])) (r b) ∙ level_append (suc b) xs (mark n ∷ []) ∙ ap (λ l. level_by l (mark n)) (f.even (suc b)) ∙ s b;
  narrow = λ most b h.
      let first : suc b ≤ most = subst (λ l. l ≤ most) (p b) h.0 in
      let inner = (stays_parts most (suc b) ts (c ∷ []) (subst (λ l. StaysShallow most l (ts ++ c ∷ [])) (p b) h.1)).0 in
      let last : level_by (level_of (suc b) xs) (mark n) ≡ b = ap (λ l. level_by l (mark n)) (f.even (suc b)) ∙ s b in
      let low : b ≤ most = omega arith in (
        tt,
        subst (λ l. l ≤ most) (sym (r b)) first,
        subst (λ l. Narrow most l (xs ++ mark n ∷ [])) (sym (r b))
            (narrow_both most (suc b) xs (mark n ∷ []) (f.narrow most (suc b) inner) (tt, subst (λ l. l ≤ most) (sym last) low, tt)),
      );
}

pub nests_parens : (o c : Token) (ts : List Token) (xs : List Lexeme) → IsMark sign.Open o → IsMark sign.Close c → Nests ts xs → Nests (o ∷ ts ++ c ∷ [])
    (mark sign.Open ∷ xs ++ mark sign.Close ∷ [])
nests_parens o c ts xs h k f = round o c sign.Open sign.Close ts xs (λ b. ap (turned b) h.kind) (λ b. ap (turned (suc b)) k.kind) (λ b. refl) (λ b. refl) f

pub nests_braces : (o c : Token) (ts : List Token) (xs : List Lexeme) → IsMark sign.Begin o → IsMark sign.End c → Nests ts xs → Nests (o ∷ ts ++ c ∷ [])
    (mark sign.Begin ∷ xs ++ mark sign.End ∷ [])
nests_braces o c ts xs h k f = round o c sign.Begin sign.End ts xs (λ b. ap (turned b) h.kind) (λ b. ap (turned (suc b)) k.kind) (λ b. refl) (λ b. refl) f

-- parentheses of the text that are not printed
pub nests_loose : (o c : Token) (ts : List Token) (xs : List Lexeme) → IsMark sign.Open o → IsMark sign.Close c → Nests ts xs → Nests (o ∷ ts ++ c ∷ []) xs
nests_loose o c ts xs h k f =
    let g = nests_parens o c ts xs h k f in
    record {
      text_even = g.text_even;
      even = f.even;
      narrow = λ most b s. let n = g.narrow most b s in narrow_less most b (suc b) xs (omega arith) (narrow_front most (suc b) xs (mark sign.Close ∷ []) n.2);
    }

-- parentheses that are printed in one place and not in another
pub nests_bare : (ts : List Token) (xs : List Lexeme) → ((b : ℕ) → level_of b xs ≡ b) → Nests ts (mark sign.Open ∷ xs ++ mark sign.Close ∷ []) → Nests ts xs
nests_bare ts xs e g = record {
  text_even = g.text_even;
  even = e;
  narrow = λ most b s. let n = g.narrow most b s in narrow_less most b (suc b) xs (omega arith) (narrow_front most (suc b) xs (mark sign.Close ∷ []) n.2);
}

-- tokens that are printed so are as shallow
pub no_mark_flat : (b : ℕ) (k : Kind) → ((m : Mark) → k ≡ kind.Mark m → ⊥) → turned b k ≡ b
no_mark_flat b (kind.Mark m) n = absurd (n m refl)
no_mark_flat b kind.Name n = refl
no_mark_flat b kind.Number n = refl
no_mark_flat b kind.Text n = refl
no_mark_flat b (kind.Key k) n = refl

same_turn : (other : List ℕ) (b : ℕ) (u : Token) (x : Lexeme) → IsOf other u x → IsNoMark x → turned b u.kind ≡ level_by b x
same_turn other b u (key k) h n = ap (turned b) (is_key other k u h).kind
same_turn other b u (mark m) h n = ap (turned b) (is_mark other m u h).kind
same_turn other b u (word cs) h n = no_mark_flat b u.kind (λ m e. n m (let t : IsToken (kind.Mark m) cs = subst (λ k. IsToken k cs) e h.is_token in t))

pub stays_shallow : (other : List ℕ) (most b : ℕ) (us : List Token) (xs : List Lexeme) → AreOf other us xs → Narrow most b xs → StaysShallow most b us
stays_shallow other most b [] xs a n = tt
stays_shallow other most b (u ∷ us) [] a n = absurd a
stays_shallow other most b (u ∷ us) (x ∷ xs) a n =
    let e = same_turn other b u x a.0 n.0 in
    (subst (λ l. l ≤ most) (sym e) n.1, subst (λ l. StaysShallow most l us) (sym e) (stays_shallow other most (level_by b x) us xs a.1 n.2))
