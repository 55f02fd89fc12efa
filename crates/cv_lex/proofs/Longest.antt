-- Which tokens are the longest at their place.
use Rattle.std.proofs.Common.{◌≡◌, ℕ, ◌+◌, ◌⊎◌, inl, inr, List, [], ◌∷◌, ◌++◌, length, IsTrue, refl, sym, ap, ◌∙◌, subst, arith, length-append}
use Rattle.std.specs.Char.{is_ascii_digit}
use Rattle.std.proofs.lemmas.List.{nil_from_length}
use Rattle.unicode_ident.specs.Ident.{is_xid_continue}
use Rattle.easl_model.specs.declared.token.Kind.{Kind}
use Rattle.easl_model.specs.declared.token.Kind.TheVariants as kind
use Rattle.easl_model.specs.declared.token.Mark.{Mark}
use Rattle.easl_model.specs.declared.token.Mark.TheVariants as mark
use Rattle.easl_model.specs.{EndsQuoted, IsLongest, IsToken, IsWord, backslash, closed, escaped, mark_text, plain, quote}
use Rattle.easl_model.proofs.Words.{Words, Numbers, Quotes, Marks, group_of, begins_token, token_some, key_is_word}
use Rattle.cv_lex.proofs.Runs.{AllPassing, Stops, no_further}

-- a longer token is of the same group
same_group : (j k : Kind) (cs more : List ℕ) → IsToken k cs → IsToken j (cs ++ more) → group_of j ≡ group_of k
same_group j k [] more t u = absurd (token_some k t)
same_group j k (c ∷ cs) more t u = sym (begins_token j c (cs ++ more) u) ∙ begins_token k c cs t

word_of : (k : Kind) (cs : List ℕ) → group_of k ≡ Words → IsToken k cs → IsWord cs
word_of kind.Name cs e t = t.0
word_of (kind.Key k) cs e t = subst IsWord (sym t) (key_is_word k)
word_of k cs e t = cc

pub word_longest : (k : Kind) (c : ℕ) (used rest : List ℕ) → group_of k ≡ Words → IsToken k (c ∷ used) → Stops is_xid_continue rest → IsLongest k (c ∷ used) rest
word_longest k c used rest g t s = record {
  is_token = t;
  longest = λ j more after e u.
      let word = word_of j (c ∷ used ++ more) (same_group j k (c ∷ used) more t u ∙ g) u in
      no_further is_xid_continue used more after rest e s word.1;
}

digits_of : (k : Kind) (c : ℕ) (cs : List ℕ) → group_of k ≡ Numbers → IsToken k (c ∷ cs) → AllPassing is_ascii_digit cs
digits_of kind.Number c cs e t = t.1.1
digits_of k c cs e t = cc

pub number_longest : (c : ℕ) (used rest : List ℕ) → IsTrue (is_ascii_digit c) → AllPassing is_ascii_digit used → Stops is_ascii_digit rest
    → IsLongest kind.Number (c ∷ used) rest
number_longest c used rest h a s =
    let t : IsToken kind.Number (c ∷ used) = ((λ e. cc), (h, a)) in
    record {
      is_token = t;
      longest = λ j more after e u. no_further is_ascii_digit used more after rest e s (digits_of j c (used ++ more) (same_group j kind.Number (c ∷ used) more t u) u);
    }

-- a quoted text ends once
ends_once : (used all more : List ℕ) → EndsQuoted used → EndsQuoted all → all ≡ used ++ more → more ≡ []
ends_once _ _ more closed closed e = cc
ends_once _ _ more closed (plain c cs h i j f) e = absurd (h (let g : c ≡ quote = cc in g))
ends_once _ _ more closed (escaped c cs h f) e = let g : backslash ≡ quote = cc in absurd (omega arith)
ends_once _ _ more (plain c cs h i j f) closed e = absurd (h (let g : c ≡ quote = cc in g))
ends_once _ _ more (plain c cs h i j f) (plain d ds k l m g) e = ends_once cs ds more f g (let r : ds ≡ cs ++ more = cc in r)
ends_once _ _ more (plain c cs h i j f) (escaped d ds k g) e = absurd (i (let r : c ≡ backslash = cc in r))
ends_once _ _ more (escaped c cs h f) closed e = let g : backslash ≡ quote = cc in absurd (omega arith)
ends_once _ _ more (escaped c cs h f) (plain d ds k l m g) e = absurd (l (let r : d ≡ backslash = cc in r))
ends_once _ _ more (escaped c cs h f) (escaped d ds k g) e = ends_once cs ds more f g (let r : ds ≡ cs ++ more = cc in r)

pub quoted_of : (k : Kind) (c : ℕ) (cs : List ℕ) → group_of k ≡ Quotes → IsToken k (c ∷ cs) → EndsQuoted cs
quoted_of kind.Text c cs e t = t.1
quoted_of k c cs e t = cc

pub quoted_longest : (c : ℕ) (used rest : List ℕ) → c ≡ quote → EndsQuoted used → IsLongest kind.Text (c ∷ used) rest
quoted_longest c used rest h f =
    let t : IsToken kind.Text (c ∷ used) = (h, f) in
    record {
      is_token = t;
      longest = λ j more after e u. ends_once used (used ++ more) more f (quoted_of j c (used ++ more) (same_group j kind.Text (c ∷ used) more t u) u) refl;
    }

pub mark_of : (k : Kind) (cs : List ℕ) → group_of k ≡ Marks → IsToken k cs → (m : Mark) × (cs ≡ mark_text m)
mark_of (kind.Mark m) cs e t = (m, t)
mark_of k cs e t = cc

-- a longer token than this mark is a mark
pub longer_mark : (m : Mark) (j : Kind) (more : List ℕ) → IsToken j (mark_text m ++ more) → (n : Mark) × (mark_text m ++ more ≡ mark_text n)
longer_mark m j more u = mark_of j (mark_text m ++ more) (same_group j (kind.Mark m) (mark_text m) more refl u) u

pub mark_size : (m : Mark) → (length (mark_text m) ≡ 1) ⊎ (length (mark_text m) ≡ 2)
mark_size mark.Begin = inl refl
mark_size mark.End = inl refl
mark_size mark.Open = inl refl
mark_size mark.Close = inl refl
mark_size mark.Semicolon = inl refl
mark_size mark.Comma = inl refl
mark_size mark.Dot = inl refl
mark_size mark.Assign = inl refl
mark_size mark.Same = inr refl
mark_size mark.Differ = inr refl
mark_size mark.And = inr refl
mark_size mark.Or = inr refl
mark_size mark.Choice = inl refl

pub long_mark_longest : (m : Mark) (rest : List ℕ) → length (mark_text m) ≡ 2 → IsLongest (kind.Mark m) (mark_text m) rest
long_mark_longest m rest h = record {
  is_token = refl;
  longest = λ j more after e u.
      let w = longer_mark m j more u in
      nil_from_length more (by w.0 more w.1);
}
  where
    by : (n : Mark) (more : List ℕ) → mark_text m ++ more ≡ mark_text n → length more ≡ 0
    by n more e =
        let lengths : length (mark_text m) + length more ≡ length (mark_text n) = sym (length-append (mark_text m) more) ∙ ap length e in
        elim (mark_size n) [ inl f ↦ omega arith | inr f ↦ omega arith ]
