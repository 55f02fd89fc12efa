-- Which characters end a token.
use Rattle.std.proofs.Common.{◌≡◌, ℕ, ◌+◌, ◌<◌, Bool, true, false, ◌||◌, ◌==◌, inl, inr, List, [], ◌∷◌, ◌++◌, length, codes, IsTrue, refl, sym, ap, ◌∙◌, subst, arith, length-append}
use Rattle.std.specs.Char.{is_ascii_digit, is_ascii_alphanumeric}
use Rattle.std.proofs.lemmas.Bool.Decides.{nat_tests}
use Rattle.unicode_ident.specs.Ident.{is_xid_continue}
use Rattle.unicode_ident.proofs.IdentLemmas.{is_xid_continue-ascii}
use Rattle.easl_model.specs.declared.token.Kind.{Kind}
use Rattle.easl_model.specs.declared.token.Kind.TheVariants as kind
use Rattle.easl_model.specs.declared.token.Mark.{Mark}
use Rattle.easl_model.specs.declared.token.Mark.TheVariants as mark
use Rattle.easl_model.specs.{IsLongest, IsToken, mark_text}
use Rattle.easl_model.proofs.Words.{token_some}
use Rattle.cv_lex.proofs.Longest.{word_longest, number_longest, quoted_longest, longer_mark, mark_size}
use Rattle.cv_lex.proofs.Runs.{Stops}

-- white space, and the marks that no space precedes
abbrev pub ends_token : ℕ → Bool
ends_token c = c == 32 || c == 10 || c == 40 || c == 41 || c == 59 || c == 44 || c == 46

-- nothing follows, or a character that ends a token
abbrev pub EndsToken : List ℕ → Type 0
EndsToken [] = Unit {0}
EndsToken (c ∷ cs) = IsTrue (ends_token c)

ender_small : (c : ℕ) → IsTrue (ends_token c) → c < 128
ender_small c h = grind (arith, nat_tests)

ender_plain : (c : ℕ) → IsTrue (ends_token c) → (is_ascii_alphanumeric c || c == 95) ≡ false
ender_plain c h = grind (arith, nat_tests)

ender_no_digit : (c : ℕ) → IsTrue (ends_token c) → is_ascii_digit c ≡ false
ender_no_digit c h = grind (arith, nat_tests)

stops_word : (rest : List ℕ) → EndsToken rest → Stops is_xid_continue rest
stops_word [] h = tt
stops_word (c ∷ cs) h = is_xid_continue-ascii c (ender_small c h) ∙ ender_plain c h

stops_number : (rest : List ℕ) → EndsToken rest → Stops is_ascii_digit rest
stops_number [] h = tt
stops_number (c ∷ cs) h = ender_no_digit c h

abbrev second : List ℕ → ℕ
second [] = 0
second (a ∷ []) = 0
second (a ∷ b ∷ cs) = b

-- no mark has such a character behind its first
mark_second : (n : Mark) → ends_token (second (mark_text n)) ≡ false
mark_second mark.Begin = refl
mark_second mark.End = refl
mark_second mark.Open = refl
mark_second mark.Close = refl
mark_second mark.Semicolon = refl
mark_second mark.Comma = refl
mark_second mark.Dot = refl
mark_second mark.Assign = refl
mark_second mark.Same = refl
mark_second mark.Differ = refl
mark_second mark.And = refl
mark_second mark.Or = refl
mark_second mark.Choice = refl

second_behind : (xs cs : List ℕ) (c : ℕ) → length xs ≡ 1 → second (xs ++ c ∷ cs) ≡ c
second_behind [] cs c e = absurd (omega arith)
second_behind (x ∷ []) cs c e = refl
second_behind (x ∷ y ∷ xs) cs c e = absurd (omega arith)

no_longer : (m n : Mark) (c : ℕ) (cs : List ℕ) → mark_text m ++ c ∷ cs ≡ mark_text n → IsTrue (ends_token c) → ⊥
no_longer m n c cs e h =
    let lengths : length (mark_text m) + length (c ∷ cs) ≡ length (mark_text n) = sym (length-append (mark_text m) (c ∷ cs)) ∙ ap length e in
    elim (mark_size m) [
      | inl one ↦ (
          let same : second (mark_text n) ≡ c = ap second (sym e) ∙ second_behind (mark_text m) cs c one in
          let both : true ≡ false = sym h ∙ ap ends_token (sym same) ∙ mark_second n in
          cc)
      | inr two ↦ elim (mark_size n) [ inl f ↦ absurd (omega arith) | inr f ↦ absurd (omega arith) ]
    ]

mark_longest : (m : Mark) (rest : List ℕ) → EndsToken rest → IsLongest (kind.Mark m) (mark_text m) rest
mark_longest m rest h = record {
  is_token = refl;
  longest = λ j more after e u. let w = longer_mark m j more u in by w.0 more after w.1 e;
}
  where
    by : (n : Mark) (more after : List ℕ) → mark_text m ++ more ≡ mark_text n → rest ≡ more ++ after → more ≡ []
    by n [] after e f = refl
    by n (c ∷ cs) after e f = absurd (no_longer m n c cs e (subst EndsToken f h))

-- before such a character, and at the end, each token is the longest
pub longest_before : (k : Kind) (cs rest : List ℕ) → IsToken k cs → EndsToken rest → IsLongest k cs rest
longest_before k [] rest t h = absurd (token_some k t)
longest_before kind.Name (c ∷ cs) rest t h = word_longest kind.Name c cs rest refl t (stops_word rest h)
longest_before kind.Number (c ∷ cs) rest t h = number_longest c cs rest t.1.0 t.1.1 (stops_number rest h)
longest_before kind.Text (c ∷ cs) rest t h = quoted_longest c cs rest t.0 t.1
longest_before (kind.Key k) (c ∷ cs) rest t h = word_longest (kind.Key k) c cs rest refl t (stops_word rest h)
longest_before (kind.Mark m) (c ∷ cs) rest t h = subst (λ x. IsLongest (kind.Mark m) x rest) (sym t) (mark_longest m rest h)

open_alone : (n : Mark) (more : List ℕ) → codes "(" ++ more ≡ mark_text n → more ≡ []
open_alone mark.Open more e = cc
open_alone n more e = cc

dot_alone : (n : Mark) (more : List ℕ) → codes "." ++ more ≡ mark_text n → more ≡ []
dot_alone mark.Dot more e = cc
dot_alone n more e = cc

-- "(" and "." are the longest before whatever follows
pub open_longest : (rest : List ℕ) → IsLongest (kind.Mark mark.Open) (codes "(") rest
open_longest rest = record { is_token = refl; longest = λ j more after e u. let w = longer_mark mark.Open j more u in open_alone w.0 more w.1 }

pub dot_longest : (rest : List ℕ) → IsLongest (kind.Mark mark.Dot) (codes ".") rest
dot_longest rest = record { is_token = refl; longest = λ j more after e u. let w = longer_mark mark.Dot j more u in dot_alone w.0 more w.1 }
