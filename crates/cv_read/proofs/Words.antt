-- A token and then this, this and then a mark; and ways that begin with different tokens.
use Rattle.std.proofs.Common.{◌≡◌, Bool, List, [], ◌∷◌, ◌++◌, refl, sym, ◌∙◌, ap, subst}
use Rattle.easl_model.specs.declared.token.Kind.{Kind}
use Rattle.easl_model.specs.declared.token.Kind.TheVariants as kind
use Rattle.easl_model.specs.declared.token.Mark.{Mark}
use Rattle.easl_model.specs.declared.token.Mark.TheVariants as mark
use Rattle.easl_model.specs.declared.token.Token.{Token}
use Rattle.cv_read.specs.{Got, before_mark, choose, is_mark, mark_at, nothing_of, parens_at, take_at, ◌>>=◌}
use Rattle.cv_read.specs.Read.{Read}
use Rattle.cv_read.proofs.Tested.{mark_kind, mark_self}
use Rattle.cv_read.proofs.Laws.{Lang, Is, none, Avoids, Front, Sub, Apart, Reads, Then, One, End, Or, Mapped, both, one, mapped, respell, avoids_none, choice, empty}

-- a token of these kinds and then what its value asks for
abbrev pub Led : {A B : Type 0} → (Kind → Bool) → (Token → A) → (A → Lang B) → Lang B
Led p value S w z = (t : Token) × (u : List Token) × Is (p t.kind) × S (value t) u z × (w ≡ t ∷ u)

pub led : {A B : Type 0} (p : Kind → Bool) (value : Token → A) (k : Kind) → Is (p k)
    → (r : A → List Token → Read B) (S : A → Lang B) (G : Kind → Bool) → ((x : A) → Reads (r x) (S x) G)
    → Reads (λ ts. take_at p value ts >>= r) (Led p value S) G
led {A} p value k is r S G laws = respell (λ ts. take_at p value ts >>= r) (Then (One p value) S) (Led p value S) G
    (λ w z s. (s.3.0, s.2, s.3.2, subst (λ (x : A). S x s.2 z) s.3.3 s.4, s.5 ∙ ap (λ m. m ++ s.2) s.3.1))
    (λ w z s. (value s.0, s.0 ∷ [], s.1, (s.0, refl, s.2, refl), s.3, s.4))
    (both (take_at p value) r (One p value) S none G (one p value none k is) laws (λ x w k z s a. avoids_none (w ++ k)))

pub led_starts : {A B : Type 0} (p : Kind → Bool) (value : Token → A) (S : A → Lang B) (w : List Token) (z : B) → Led p value S w z → Front p w
led_starts p value S w z s = subst (Front p) (sym s.4) s.2

-- this and then a mark
abbrev pub Closed : {A : Type 0} → Mark → Lang A → Lang A
Closed m S w z = (u : List Token) × (t : Token) × S u z × Is (is_mark m t.kind) × (w ≡ u ++ t ∷ [])

pub closed : {A : Type 0} (m : Mark) (r : List Token → Read A) (S : Lang A) (G H : Kind → Bool) → Reads r S G → (Is (G (kind.Mark m)) → ⊥)
    → Reads (before_mark m r) (Closed m S) H
closed {A} m r S G H reads stops = respell (before_mark m r) (Then S (λ x. Mapped (One (is_mark m) nothing_of) (λ _. x))) (Closed m S) H
    (λ w z s. (s.1, s.4.1.0, subst (S s.1) (sym s.4.2) s.3, s.4.1.2, s.5 ∙ ap (λ l. s.1 ++ l) s.4.1.1))
    (λ w z s. (z, s.0, s.1 ∷ [], s.2, (tt, (s.1, refl, s.3, refl), refl), s.4))
    (both r (λ x us. mark_at m us >>= λ _ vs. Got x vs) S (λ x. Mapped (One (is_mark m) nothing_of) (λ _. x)) G H reads
    (λ x. mapped (mark_at m) (λ _. x) (One (is_mark m) nothing_of) H (one (is_mark m) nothing_of H (kind.Mark m) (mark_self m)))
    (λ x w k z s a. subst (λ l. Avoids G (l ++ k)) (sym s.1.1) (λ g. stops (subst (λ q. Is (G q)) (mark_kind m s.1.0.kind s.1.2) g))))

-- this in parentheses
abbrev pub Parens : {A : Type 0} → Lang A → Lang A
Parens S = Led (is_mark mark.Open) nothing_of (λ _. Closed mark.Close S)

pub parens : {A : Type 0} (r : List Token → Read A) (S : Lang A) (G H : Kind → Bool) → Reads r S G → (Is (G (kind.Mark mark.Close)) → ⊥)
    → Reads (parens_at r) (Parens S) H
parens r S G H reads stops = led (is_mark mark.Open) nothing_of (kind.Mark mark.Open) (mark_self mark.Open) (λ _ us. before_mark mark.Close r us) (λ _. Closed mark.Close S) H (λ _. closed mark.Close r S G H reads stops)

-- what begins with one of these begins with none that is apart from them
pub front_shuns : (p G : Kind → Bool) → Apart p G → (w : List Token) → Front p w → Avoids G w
front_shuns p G h [] f = tt
front_shuns p G h (t ∷ w) f = h t.kind f

-- two ways that begin with different tokens, and one way or nothing
pub two_ways : {A : Type 0} (p q : Kind → Bool) (r s : List Token → Read A) (S T : Lang A) (G : Kind → Bool) → Reads r S G → Reads s T G
    → ((w : List Token) (x : A) → S w x → Front p w) → ((w : List Token) (x : A) → T w x → Front q w) → Apart q p → Reads (choose p r s) (Or S T) G
two_ways p q r s S T G one two first second apart = choice p r s S T G one two first (λ w x h. front_shuns q p apart w (second w x h)) (λ x h. absurd (second [] x h))

pub or_nothing : {A : Type 0} (p : Kind → Bool) (r : List Token → Read A) (x : A) (S : Lang A) (G : Kind → Bool) → Reads r S G
    → ((w : List Token) (x : A) → S w x → Front p w) → Sub p G → Reads (choose p r (λ us. Got x us)) (Or S (End x)) G
or_nothing p r x S G one first sub = choice p r (λ us. Got x us) S (End x) G one (empty x G) first (λ w y h. subst (Avoids p) (sym h.0) tt) (λ y h. sub)
