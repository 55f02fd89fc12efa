-- The loop that counts unclosed brackets.
use Rattle.std.proofs.Common.{◌≡◌, ℕ, ◌<◌, ◌≤◌, List, [], ◌∷◌, ◌++◌, length, refl, sym, ◌∙◌, ap, subst, arith, append_assoc, append-nil}
use Rattle.easl_model.specs.{Shallow, StaysShallow, level_after, turned}
use Rattle.easl_model.specs.declared.token.Kind.{Kind}
use Rattle.easl_model.specs.declared.token.Token.{Token}
use Rattle.cv_read.specs.{DeepAt, FirstIs}

pub level-append : (b : ℕ) (u v : List Token) → level_after b (u ++ v) ≡ level_after (level_after b u) v
level-append b [] v = refl
level-append b (t ∷ u) v = level-append (turned b t.kind) u v

-- where the loop is
pub record IsCounted (whole rest : List Token) (level : ℕ) : Type 0 where
  pub front : List Token
  pub splits : whole ≡ front ++ rest
  pub counts : level ≡ level_after 0 front
  pub shallow : Shallow front
  pub low : level ≤ 64

pub begins : (whole : List Token) → IsCounted whole whole 0
begins whole = record { front = []; splits = refl; counts = refl; shallow = tt; low = omega arith }

one_more : (b : ℕ) (p : List Token) (t : Token) → StaysShallow 64 b p → turned (level_after b p) t.kind ≤ 64 → StaysShallow 64 b (p ++ t ∷ [])
one_more b [] t s h = (h, tt)
one_more b (z ∷ p) t s h = (s.0, one_more (turned b z.kind) p t s.1 h)

pub goes_on : (whole rest after : List Token) (level next : ℕ) (k : Kind) → IsCounted whole rest level → FirstIs k after rest → next ≡ turned level k
    → next ≤ 64 → IsCounted whole after next
goes_on whole [] after level next k c f n h = absurd f
goes_on whole (t ∷ ts) after level next k c f n h =
    let n' : next ≡ turned (level_after 0 c.front) t.kind = n ∙ ap (λ b. turned b k) c.counts ∙ ap (turned (level_after 0 c.front)) (sym f.0) in
    record {
      front = c.front ++ t ∷ [];
      splits = c.splits ∙ ap (λ m. c.front ++ t ∷ m) f.1 ∙ sym (append_assoc c.front (t ∷ []) after);
      counts = n' ∙ sym (level-append 0 c.front (t ∷ []));
      shallow = one_more 0 c.front t c.shallow (subst (λ b. b ≤ 64) n' h);
      low = h;
    }

pub ends : (whole rest : List Token) (level : ℕ) → IsCounted whole rest level → rest ≡ [] → Shallow whole
ends whole rest level c e = subst Shallow (sym (c.splits ∙ ap (λ m. c.front ++ m) e ∙ append-nil c.front)) c.shallow

pub too_many : (whole rest after : List Token) (level next : ℕ) (k : Kind) → IsCounted whole rest level → FirstIs k after rest → next ≡ turned level k
    → 64 < next → DeepAt whole (length rest)
too_many whole [] after level next k c f n h = absurd f
too_many whole (t ∷ ts) after level next k c f n h =
    let n' : next ≡ turned (level_after 0 c.front) t.kind = n ∙ ap (λ b. turned b k) c.counts ∙ ap (turned (level_after 0 c.front)) (sym f.0) in (
      c.front,
      t,
      ts,
      c.splits,
      refl,
      record { shallow = c.shallow; deep = subst (λ b. 64 < b) n' h },
    )
