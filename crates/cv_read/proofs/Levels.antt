-- Which languages close what they open, and which readers go too deep only where too many brackets stand.
use Rattle.std.proofs.Common.{◌≡◌, ℕ, suc, Bool, List, [], ◌∷◌, ◌++◌, refl, ◌∙◌, ap, inl, inr}
use Rattle.easl_model.specs.{IsListed, IsMore, is_literal, level_after, listed, no_more, nothing, one_more, turned}
use Rattle.easl_model.specs.declared.token.Key.{Key}
use Rattle.easl_model.specs.declared.token.Kind.{Kind}
use Rattle.easl_model.specs.declared.token.Kind.TheVariants as kind
use Rattle.easl_model.specs.declared.token.Mark.{Mark}
use Rattle.easl_model.specs.declared.token.Mark.TheVariants as mark
use Rattle.easl_model.specs.declared.token.Token.{Token}
use Rattle.cv_read.specs.{Deep, Got, Stuck, before_mark, behind_mark, commas_at, is_key, is_mark, is_name, listed_at, mark_at, more_at, nothing_of, parens_at}
use Rattle.cv_read.specs.{take_at, ◌>>=◌}
use Rattle.cv_read.specs.Read.{Read}
use Rattle.cv_read.proofs.Depth.{Even, Bounded, bounded_both, bounded_choose, bounded_take, bounded_got, bounded_bracket, bounded_items}
use Rattle.cv_read.proofs.Laws.{Lang, Is, none, Front, Apart, Reads, Then, Mapped, Or, End, One, one, got_or_deep}
use Rattle.cv_read.proofs.Repeats.{Star, Next, next_law, next_starts}
use Rattle.cv_read.proofs.Tested.{mark_kind, mark_from, key_kind}
use Rattle.cv_read.proofs.Unclosed.{level-append}
use Rattle.cv_read.proofs.Words.{Led, Closed, Parens}

-- tokens that are no brackets, that open one, and that close one
abbrev pub Flat : (Kind → Bool) → Type 0
Flat p = (k : Kind) → Is (p k) → (b : ℕ) → turned b k ≡ b

abbrev pub Opens : (Kind → Bool) → Type 0
Opens p = (k : Kind) → Is (p k) → (b : ℕ) → turned b k ≡ suc b

abbrev pub Closes : (Kind → Bool) → Type 0
Closes p = (k : Kind) → Is (p k) → (b : ℕ) → turned (suc b) k ≡ b

pub mark_flat : (m : Mark) → ((b : ℕ) → turned b (kind.Mark m) ≡ b) → Flat (is_mark m)
mark_flat m flat k h b = ap (turned b) (mark_kind m k h) ∙ flat b

pub key_flat : (w : Key) → Flat (is_key w)
key_flat w k h b = ap (turned b) (key_kind w k h)

pub name_flat : Flat is_name
name_flat kind.Name h b = refl
name_flat kind.Number h b = absurd h
name_flat kind.Text h b = absurd h
name_flat (kind.Key k) h b = absurd h
name_flat (kind.Mark m) h b = absurd h

pub literal_flat : Flat is_literal
literal_flat kind.Name h b = absurd h
literal_flat kind.Number h b = refl
literal_flat kind.Text h b = refl
literal_flat (kind.Key k) h b = refl
literal_flat (kind.Mark m) h b = absurd h

pub open_opens : Opens (is_mark mark.Open)
open_opens k h b = ap (turned b) (mark_kind mark.Open k h)

pub begin_opens : Opens (is_mark mark.Begin)
begin_opens k h b = ap (turned b) (mark_kind mark.Begin k h)

pub close_closes : Closes (is_mark mark.Close)
close_closes k h b = ap (turned (suc b)) (mark_kind mark.Close k h)

pub end_closes : Closes (is_mark mark.End)
end_closes k h b = ap (turned (suc b)) (mark_kind mark.End k h)

-- languages that close what they open
pub even_append : (u v : List Token) (b : ℕ) → level_after b u ≡ b → level_after b v ≡ b → level_after b (u ++ v) ≡ b
even_append u v b p q = level-append b u v ∙ ap (λ c. level_after c v) p ∙ q

pub even_from : {A : Type 0} (S T : Lang A) → ((w : List Token) (x : A) → T w x → S w x) → Even S → Even T
even_from S T from even w x h b = even w x (from w x h) b

pub even_end : {A : Type 0} (x : A) → Even (End x)
even_end x w z h b = ap (level_after b) h.0

pub even_one : {A : Type 0} (p : Kind → Bool) (value : Token → A) → Flat p → Even (One p value)
even_one p value flat w x h b = ap (level_after b) h.1 ∙ flat h.0.kind h.2 b

pub even_mapped : {A B : Type 0} (S : Lang A) (g : A → B) → Even S → Even (Mapped S g)
even_mapped S g even w z h b = even w h.0 h.1 b

pub even_then : {A B : Type 0} (S : Lang A) (T : A → Lang B) → Even S → ((x : A) → Even (T x)) → Even (Then S T)
even_then S T first second w z h b = ap (level_after b) h.5 ∙ even_append h.1 h.2 b (first h.1 h.0 h.3 b) (second h.0 h.2 z h.4 b)

pub even_or : {A : Type 0} (S T : Lang A) → Even S → Even T → Even (Or S T)
even_or S T first second w z (inl h) b = first w z h b
even_or S T first second w z (inr h) b = second w z h b

pub even_led : {A B : Type 0} (p : Kind → Bool) (value : Token → A) (S : A → Lang B) → Flat p → ((x : A) → Even (S x)) → Even (Led p value S)
even_led p value S flat even w z h b = ap (level_after b) h.4 ∙ ap (λ c. level_after c h.1) (flat h.0.kind h.2 b) ∙ even (value h.0) h.1 z h.3 b

pub even_closed : {A : Type 0} (m : Mark) (S : Lang A) → Flat (is_mark m) → Even S → Even (Closed m S)
even_closed m S flat even w z h b = ap (level_after b) h.4 ∙ even_append h.0 (h.1 ∷ []) b (even h.0 z h.2 b) (flat h.1.kind h.3 b)

pub even_star : {A : Type 0} (I : Lang A) → Even I → Even (Star I)
even_star I even w [] h b = ap (level_after b) h
even_star I even w (x ∷ xs) h b = ap (level_after b) h.4 ∙ even_append h.0 h.1 b (even h.0 x h.2 b) (even_star I even h.1 xs h.3 b)

pub even_listed : {A : Type 0} (I : Lang A) → Even I → Even (IsListed I)
even_listed {A} I even = by
  where
    comma : Flat (is_mark mark.Comma)
    comma = mark_flat mark.Comma (λ b. refl)

    more_even : (w : List Token) (xs : List A) → IsMore I w xs → (b : ℕ) → level_after b w ≡ b
    more_even w xs no_more b = refl
    more_even w xs (one_more {comma = c} {ts = ts} {us = us} {x = y} {xs = ys} k i h) b =
        ap (λ l. level_after l (ts ++ us)) (comma c.kind (mark_from mark.Comma c k) b) ∙ even_append ts us b (even ts y i b) (more_even us ys h b)

    by : (w : List Token) (xs : List A) → IsListed I w xs → (b : ℕ) → level_after b w ≡ b
    by w xs nothing b = refl
    by w xs (listed {ts = ts} {us = us} {x = y} {xs = ys} i h) b = even_append ts us b (even ts y i b) (more_even us ys h b)

-- languages that close one bracket more
abbrev pub Falls : {A : Type 0} → Lang A → Type 0
Falls {A} S = (w : List Token) (x : A) → S w x → (b : ℕ) → level_after (suc b) w ≡ b

pub falls_one : {A : Type 0} (p : Kind → Bool) (value : Token → A) → Closes p → Falls (One p value)
falls_one p value closes w x h b = ap (level_after (suc b)) h.1 ∙ closes h.0.kind h.2 b

pub falls_mapped : {A B : Type 0} (S : Lang A) (g : A → B) → Falls S → Falls (Mapped S g)
falls_mapped S g falls w z h b = falls w h.0 h.1 b

pub falls_then : {A B : Type 0} (S : Lang A) (T : A → Lang B) → Even S → ((x : A) → Falls (T x)) → Falls (Then S T)
falls_then S T first second w z h b = ap (level_after (suc b)) h.5 ∙ level-append (suc b) h.1 h.2 ∙ ap (λ c. level_after c h.2) (first h.1 h.0 h.3 (suc b)) ∙ second h.0 h.2 z h.4 b

pub falls_closed : {A : Type 0} (m : Mark) (S : Lang A) → Closes (is_mark m) → Even S → Falls (Closed m S)
falls_closed m S closes even w z h b = ap (level_after (suc b)) h.4 ∙ level-append (suc b) h.0 (h.1 ∷ []) ∙ ap (λ c. level_after c (h.1 ∷ [])) (even h.0 z h.2 (suc b)) ∙ closes h.1.kind h.3 b

pub even_opened : {A B : Type 0} (p : Kind → Bool) (value : Token → A) (S : A → Lang B) → Opens p → ((x : A) → Falls (S x)) → Even (Led p value S)
even_opened p value S opens falls w z h b = ap (level_after b) h.4 ∙ ap (λ c. level_after c h.1) (opens h.0.kind h.2 b) ∙ falls (value h.0) h.1 z h.3 b

pub even_parens : {A : Type 0} (S : Lang A) → Even S → Even (Parens S)
even_parens S even = even_opened (is_mark mark.Open) nothing_of (λ _. Closed mark.Close S) open_opens (λ _. falls_closed mark.Close S close_closes even)

-- readers
pub bounded_mapped : {A B : Type 0} (r : List Token → Read A) (g : A → B) (d : ℕ) → Bounded r d → Bounded (λ ts. r ts >>= λ x us. Got (g x) us) d
bounded_mapped {A} r g d bound ts b most e l m s = by (r ts) refl e
  where
    by : (o : Read A) → r ts ≡ o → (o >>= λ x us. Got (g x) us) ≡ Deep → ⊥
    by (Got x us) p e = got_or_deep e
    by (Stuck k) p e = cc
    by Deep p e = bound ts b most p l m s

pub bounded_led : {A B : Type 0} (p : Kind → Bool) (value : Token → A) (k : Kind) → Is (p k) → Flat p → (r : A → List Token → Read B) (d : ℕ)
    → ((x : A) → Bounded (r x) d) → Bounded (λ ts. take_at p value ts >>= r) d
bounded_led p value k is flat r d bound = bounded_both (take_at p value) r (One p value) none d (one p value none k is) (even_one p value flat) (bounded_take p value d) bound

pub bounded_closed : {A : Type 0} (m : Mark) (r : List Token → Read A) (S : Lang A) (G : Kind → Bool) (d : ℕ) → Reads r S G → Even S → Bounded r d
    → Bounded (before_mark m r) d
bounded_closed m r S G d reads even bound = bounded_both r (λ x us. mark_at m us >>= λ _ vs. Got x vs) S G d reads even bound (λ x. bounded_mapped (mark_at m) (λ _. x) d (bounded_take (is_mark m) nothing_of d))

pub bounded_parens : {A : Type 0} (r : List Token → Read A) (S : Lang A) (G : Kind → Bool) (d : ℕ) → Reads r S G → Even S → Bounded r d
    → Bounded (parens_at r) (suc d)
bounded_parens r S G d reads even bound = bounded_bracket (is_mark mark.Open) nothing_of (λ _ us. before_mark mark.Close r us) d open_opens (λ _. bounded_closed mark.Close r S G d reads even bound)

pub bounded_listed : {A : Type 0} (p : Kind → Bool) (item : List Token → Read A) (I : Lang A) (G : Kind → Bool) (reads : Reads item I G) (starts : (w : List Token) (x : A) → I w x → Front p w) (apart : Apart (is_mark mark.Comma) G) (d : ℕ)
    → Even I → Bounded item d → Bounded (listed_at p item) d
bounded_listed p item I G reads starts apart d even bound = bounded_choose p (commas_at item) (λ ts. Got [] ts) d
    (bounded_both item (λ x us. more_at item us >>= λ xs vs. Got (x ∷ xs) vs) I G d reads even bound
    (λ x. bounded_mapped (more_at item) (λ xs. x ∷ xs) d
    (bounded_items (is_mark mark.Comma) (behind_mark mark.Comma item) (Next I) G (next_law p item I G reads starts apart) (next_starts p item I G reads starts apart) apart
    (even_led (is_mark mark.Comma) nothing_of (λ _. I) (mark_flat mark.Comma (λ b. refl)) (λ _. even)) d
    (bounded_both (mark_at mark.Comma) (λ _ us. item us) (One (is_mark mark.Comma) nothing_of) none d (one (is_mark mark.Comma) nothing_of none (kind.Mark mark.Comma) tt) (even_one (is_mark mark.Comma) nothing_of (mark_flat mark.Comma (λ b. refl))) (bounded_take (is_mark mark.Comma) nothing_of d) (λ _. bound)))))
    (bounded_got [] d)
