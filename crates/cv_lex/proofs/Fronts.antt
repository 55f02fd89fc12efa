-- What is found at the front of a text is its piece there.
use Rattle.std.proofs.Common.{◌≡◌, ◌≢◌, ℕ, ◌+◌, ◌-◌, ◌<◌, ◌≤◌, Bool, false, not, ◌==◌, inl, inr, Option, Some, None, List, [], ◌∷◌, ◌++◌, length, take, drop, slice_index, get_or, IsTrue, refl, sym, ap, ◌∙◌, subst, arith, one-add, length-append}
use Rattle.std.specs.Char.{is_ascii_digit}
use Rattle.std.specs.List.{prefix_len}
use Rattle.std.proofs.lemmas.Bool.{and_parts, eqb-false, not-true, both_ways}
use Rattle.std.proofs.lemmas.List.{take_rest, take_at, nil_from_length}
use Rattle.std.proofs.lemmas.List.Sums.{prefix_len-le-length}
use Rattle.easl_model.specs.declared.token.Kind.{Kind}
use Rattle.easl_model.specs.declared.token.Kind.TheVariants as kind
use Rattle.easl_model.specs.declared.token.Mark.{Mark}
use Rattle.easl_model.specs.{IsGap, IsPiece, IsToken, IsWord, NoPiece, begins_name, comment, is_white, line_comment, mark_text, quote, white}
use Rattle.easl_model.proofs.Words.{Marks, group_of, key_is_word, token_some}
use Rattle.cv_lex.specs.Reading.{slash, begins_other, BeginsWith, IsFront, IsLong, NoLong}
use Rattle.cv_lex.proofs.Runs.{passes, stops}
use Rattle.cv_lex.proofs.Longest.{number_longest, mark_of, longer_mark, mark_size, long_mark_longest}

-- a piece that is the first character and those of the rest that pass
pub front_of : (k : Option Kind) (c : ℕ) (cs : List ℕ) (n : ℕ) → n ≤ length cs → IsPiece k (c ∷ take n cs) (drop n cs)
    → IsFront (c ∷ cs) (record { kind = k; length = 1 + n })
front_of k c cs n h p = subst (λ m. IsFront (c ∷ cs) (record { kind = k; length = m })) (sym (one-add n)) (record {
  some = omega arith;
  within = omega arith;
  piece = p;
})

pub white_front : (text : List ℕ) → BeginsWith is_white text → IsFront text (record { kind = None; length = 1 })
white_front [] b = absurd b
white_front (c ∷ cs) b = record { some = omega arith; within = omega arith; piece = white c cs b }

-- the text behind its first character
abbrev pub behind_first : List ℕ → List ℕ
behind_first text = take (length text - 1) (drop 1 text)

pub behind_is : (c : ℕ) (cs : List ℕ) → behind_first (c ∷ cs) ≡ cs
behind_is c cs = take_rest (c ∷ cs) 1

pub length_fits : (p : ℕ → Bool) (text : List ℕ) → 0 < length text → prefix_len p (behind_first text) < length text
length_fits p [] h = absurd (omega arith)
length_fits p (c ∷ cs) h = let e : prefix_len p (behind_first (c ∷ cs)) ≡ prefix_len p cs = ap (prefix_len p) (behind_is c cs) in omega (arith, prefix_len-le-length p cs)

pub number_front : (text : List ℕ) (n : ℕ) → BeginsWith is_ascii_digit text → n ≡ prefix_len is_ascii_digit (behind_first text)
    → IsFront text (record { kind = Some kind.Number; length = 1 + n })
number_front [] n b e = absurd b
number_front (c ∷ cs) n b e = rw (e, behind_is c cs) (front_of (Some kind.Number) c cs (prefix_len is_ascii_digit cs) (prefix_len-le-length is_ascii_digit cs) (number_longest c _ _ b (passes is_ascii_digit cs) (stops is_ascii_digit cs)))

pub long_front : (text : List ℕ) (m : Mark) → IsLong text m → IsFront text (record { kind = Some (kind.Mark m); length = 2 })
long_front text m l = record {
  some = omega arith;
  within = omega (arith, ap length l.front, length-append (mark_text m) (drop 2 text), l.two);
  piece = rw (take_two) (long_mark_longest m (drop 2 text) l.two);
}
  where
    take_two : take 2 text ≡ mark_text m
    take_two = ap (take 2) l.front ∙ take_at (mark_text m) (drop 2 text) 2 l.two

pub short_front : (text : List ℕ) (m : Mark) (first : ℕ) → BeginsWith begins_other text → NoLong text → first ≡ get_or text 0 first
    → mark_text m ≡ first ∷ [] → IsFront text (record { kind = Some (kind.Mark m); length = 1 })
short_front [] m first b none f e = absurd b
short_front (c ∷ cs) m first b none f e =
    let spelt : mark_text m ≡ c ∷ [] = e ∙ ap (λ x. x ∷ []) f in
    record {
      some = omega arith;
      within = omega arith;
      piece = record { is_token = sym spelt; longest = λ j more after g u. by spelt j more after g (longer_mark m j more (subst (λ x. IsToken j (x ++ more)) (sym spelt) u)) };
    }
  where
    by : mark_text m ≡ c ∷ [] → (j : Kind) (more after : List ℕ) → cs ≡ more ++ after → (n : Mark) × (mark_text m ++ more ≡ mark_text n) → more ≡ []
    by s j more after g w =
        let longer : c ∷ more ≡ mark_text w.0 = ap (λ x. x ++ more) (sym s) ∙ w.1 in
        let front : c ∷ cs ≡ mark_text w.0 ++ after = ap (λ x. c ∷ x) g ∙ ap (λ x. x ++ after) longer in
        elim (mark_size w.0) [
          | inl one ↦ nil_from_length more (omega (arith, ap length longer))
          | inr two ↦ absurd (none w.0 two after front)
        ]

no_gap : (used rest cs : List ℕ) (c : ℕ) → IsGap used rest → c ∷ cs ≡ used ++ rest → is_white c ≡ false → c ≢ slash → ⊥
no_gap _ _ cs c (white d rest h) e f g = let same : d ≡ c = cc in both_ways (is_white c) f (subst (λ x. IsTrue (is_white x)) same h)
no_gap _ _ cs c (line_comment ds rest h i) e f g = g (let same : c ≡ slash = cc in same)
no_gap _ _ cs c (comment ds rest h) e f g = g (let same : c ≡ slash = cc in same)

record OtherThan (c : ℕ) : Type 0 where
  white : is_white c ≡ false
  digit : is_ascii_digit c ≡ false
  quoted : (c == quote) ≡ false
  slashed : c ≢ slash

other : (c : ℕ) → IsTrue (begins_other c) → OtherThan c
other c h =
    let most = and_parts _ _ h in
    let more = and_parts _ _ most.0 in
    let both = and_parts _ _ more.0 in
    record { white = not-true _ both.0; digit = not-true _ both.1; quoted = not-true _ more.1; slashed = eqb-false c slash (not-true _ most.1) }

-- what begins neither a name nor a digit, and is no quote, begins a mark or no token
mark_or_none : (k : Kind) (c : ℕ) (cs : List ℕ) → begins_name c ≡ false → OtherThan c → IsToken k (c ∷ cs) → group_of k ≡ Marks
mark_or_none kind.Name c cs w o t = absurd (both_ways (begins_name c) w t.0.0)
mark_or_none kind.Number c cs w o t = absurd (both_ways (is_ascii_digit c) o.digit t.1.0)
mark_or_none kind.Text c cs w o t = absurd (eqb-false c quote o.quoted t.0)
mark_or_none (kind.Key k) c cs w o t = let word : IsWord (c ∷ cs) = subst IsWord (sym t) (key_is_word k) in absurd (both_ways (begins_name c) w word.0)
mark_or_none (kind.Mark m) c cs w o t = refl

no_token : (k : Kind) (c d : ℕ) (cs us rest : List ℕ) → begins_name c ≡ false → OtherThan c → NoLong (c ∷ cs) → ((m : Mark) → mark_text m ≢ c ∷ [])
    → c ∷ cs ≡ d ∷ us ++ rest → IsToken k (d ∷ us) → ⊥
no_token k c d cs us rest w o long short e t =
    let same : d ≡ c = cc in
    let token : IsToken k (c ∷ us) = subst (λ x. IsToken k (x ∷ us)) same t in
    by (mark_of k (c ∷ us) (mark_or_none k c us w o token) token)
  where
    by : (m : Mark) × (c ∷ us ≡ mark_text m) → ⊥
    by x = elim (mark_size x.0) [
      | inl one ↦ (
          let nothing : us ≡ [] = nil_from_length us (omega (arith, ap length x.1)) in
          short x.0 (sym x.1 ∙ ap (λ y. c ∷ y) nothing))
      | inr two ↦ (
          let behind : cs ≡ us ++ rest = cc in
          long x.0 two rest (ap (λ y. c ∷ y) behind ∙ ap (λ y. y ++ rest) x.1))
    ]

pub no_mark : (text : List ℕ) → BeginsWith begins_other text → BeginsWith (λ c. not (begins_name c)) text → NoLong text
    → ((m : Mark) → mark_text m ≢ slice_index text 0 ∷ []) → NoPiece text
no_mark [] b w long short k used rest e p = absurd b
no_mark (c ∷ cs) b w long short None used rest e p = no_gap used rest cs c p e (other c b).white (other c b).slashed
no_mark (c ∷ cs) b w long short (Some k) [] rest e p = token_some k p.is_token
no_mark (c ∷ cs) b w long short (Some k) (d ∷ us) rest e p = no_token k c d cs us rest (not-true _ w) (other c b) long short e p.is_token
