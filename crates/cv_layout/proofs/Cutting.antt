-- Lines of tokens are cut into exactly these tokens.
use Rattle.std.proofs.Common.{◌≡◌, ℕ, zero, suc, Bool, true, false, ◌||◌, List, [], ◌∷◌, ◌++◌, codes, chars, encode_utf8_all, append_assoc, append-nil, refl, sym, ap, ◌∙◌, subst, IsTrue}
use Rattle.std.specs.List.{AllByRecursion}
use Rattle.std.specs.Str.{all_scalars}
use Rattle.std.proofs.lemmas.Str.{chars-encodes}
use Rattle.easl_model.specs.{Cut, IsLongest, done, gap, is_white, place_after, token, token_at, white, word_of}
use Rattle.easl_model.specs.declared.token.Kind.TheVariants as kind
use Rattle.easl_model.specs.declared.token.Mark.TheVariants as sign
use Rattle.easl_model.specs.declared.token.Token.{Token}
use Rattle.easl_model.proofs.Pieces.{one_token}
use Rattle.cv_layout.specs.declared.page.Before.{Before}
use Rattle.cv_layout.specs.declared.page.Before.TheVariants as before
use Rattle.cv_layout.specs.{AreOf, IsProper, Lexeme, Line, LinesAreCut, before_next, between, indent, is_close, is_open, layout, line_text, mark}
use Rattle.cv_layout.specs.{space_unless, spaced, text_of, tokens_on}
use Rattle.cv_layout.proofs.Ends.{EndsToken, longest_before, open_longest, dot_longest}
use Rattle.cv_layout.proofs.Parts.{whole, token_word}

-- white space is a gap
abbrev pub AllWhite : List ℕ → Type 0
AllWhite cs = AllByRecursion (λ c. IsTrue (is_white c)) cs

cut_white : (before cs rest : List ℕ) (ts : List Token) → AllWhite cs → Cut (before ++ cs) rest ts → Cut before (cs ++ rest) ts
cut_white before [] rest ts w c = subst (λ b. Cut b rest ts) (append-nil before) c
cut_white before (d ∷ cs) rest ts w c =
    gap before (d ∷ []) (cs ++ rest) ts (white d (cs ++ rest) w.0)
    (cut_white (before ++ d ∷ []) cs rest ts w.1 (subst (λ b. Cut b rest ts) (sym (append_assoc before (d ∷ []) cs)) c))

space_white : (b : Bool) → AllWhite (space_unless b)
space_white true = tt
space_white false = (refl, tt)

between_white : (b : Before) (x : Lexeme) → AllWhite (between b x)
between_white before.Joined x = tt
between_white before.Word x = space_white (is_close x || is_open x)
between_white before.Other x = space_white (is_close x)

-- where no space stands before a token, it begins with a character that ends the one before it
joined_ends : (y : Lexeme) (s r : List ℕ) → (is_close y || is_open y) ≡ true → EndsToken ((text_of y ++ s) ++ r)
joined_ends (mark sign.Open) s r e = refl
joined_ends (mark sign.Close) s r e = refl
joined_ends (mark sign.Semicolon) s r e = refl
joined_ends (mark sign.Comma) s r e = refl
joined_ends (mark sign.Dot) s r e = refl
joined_ends y s r e = cc

space_ends : (b : Bool) (q s r : List ℕ) → (b ≡ true → EndsToken ((q ++ s) ++ r)) → EndsToken ((space_unless b ++ (q ++ s)) ++ r)
space_ends true q s r f = f refl
space_ends false q s r f = refl

or_one : (a b : Bool) → a ≡ true → (a || b) ≡ true
or_one true b e = refl
or_one false b e = cc

goes_on : (b : Before) (xs : List Lexeme) (rest : List ℕ) → (b ≡ before.Joined → ⊥) → EndsToken rest → EndsToken (spaced b xs ++ rest)
goes_on b [] rest n h = h
goes_on before.Joined (y ∷ ys) rest n h = absurd (n refl)
goes_on before.Word (y ∷ ys) rest n h =
    let s = spaced (before_next y) ys in
    space_ends (is_close y || is_open y) (text_of y) s rest (joined_ends y s rest)
goes_on before.Other (y ∷ ys) rest n h =
    let s = spaced (before_next y) ys in
    space_ends (is_close y) (text_of y) s rest (λ e. joined_ends y s rest (or_one (is_close y) (is_open y) e))

-- each token of a line is the longest at its place
token_longest : (x : Lexeme) (xs : List Lexeme) (rest : List ℕ) (p : IsProper x) → EndsToken rest → IsLongest p.kind (text_of x)
    (spaced (before_next x) xs ++ rest)
token_longest (mark sign.Open) xs rest p h =
    subst (λ k. IsLongest k (codes "(") (spaced before.Joined xs ++ rest))
    (one_token (kind.Mark sign.Open) p.kind (codes "(") refl p.is_token) (open_longest (spaced before.Joined xs ++ rest))
token_longest (mark sign.Dot) xs rest p h =
    subst (λ k. IsLongest k (codes ".") (spaced before.Joined xs ++ rest)) (one_token (kind.Mark sign.Dot) p.kind (codes ".") refl p.is_token)
    (dot_longest (spaced before.Joined xs ++ rest))
token_longest x xs rest p h = longest_before p.kind (text_of x) (spaced (before_next x) xs ++ rest) p.is_token (goes_on (before_next x) xs rest (λ e. cc) h)

proper_parts : (xs ys : List Lexeme) → AllByRecursion IsProper (xs ++ ys) → AllByRecursion IsProper xs × AllByRecursion IsProper ys
proper_parts [] ys p = (tt, p)
proper_parts (x ∷ xs) ys p = let r = proper_parts xs ys p.1 in ((p.0, r.0), r.1)

module _ (full : List ℕ) (scalars : all_scalars full ≡ true) where
  -- the tokens of one line, behind others and before what ends a token
  cut_spaced : (before rest : List ℕ) (b : Before) (xs : List Lexeme) → AllByRecursion IsProper xs → EndsToken rest → full ≡ before ++ (spaced b xs ++ rest)
      → (us : List Token) × AreOf (encode_utf8_all full) us xs ×
      ((ts : List Token) → Cut (before ++ spaced b xs) rest ts → Cut before (spaced b xs ++ rest) (us ++ ts))
  cut_spaced front rest b [] p h e = ([], tt, λ ts c. subst (λ m. Cut m rest ts) (append-nil front) c)
  cut_spaced front rest b (x ∷ xs) p h e =
      let w = between b x in
      let q = text_of x in
      let s = spaced (before_next x) xs in
      let around : full ≡ (front ++ w) ++ (q ++ (s ++ rest)) = e ∙ simp append_assoc in
      let onward : full ≡ ((front ++ w) ++ q) ++ (s ++ rest) = around ∙ simp append_assoc in
      let more = cut_spaced ((front ++ w) ++ q) rest (before_next x) xs p.1 h onward in
      let t = token_at (front ++ w) p.0.kind q in
      let name : (word_of (encode_utf8_all full) t).name ≡ q =
      ap (λ m. (word_of (encode_utf8_all m) t).name) around ∙ token_word p.0.kind (front ++ w) q (s ++ rest) (ap all_scalars (sym around) ∙ scalars) in (
        t ∷ more.0,
        (record { is_token = p.0.is_token; written = name }, more.1),
        λ ts c.
            let moved : Cut (((front ++ w) ++ q) ++ s) rest ts = subst (λ m. Cut m rest ts) (simp append_assoc) c in
            let one : Cut (front ++ w) (q ++ (s ++ rest)) (t ∷ more.0 ++ ts) =
            token p.0.kind (front ++ w) q (s ++ rest) (more.0 ++ ts) (token_longest x xs rest p.0 h) (more.2 ts moved) in
            let two : Cut front (w ++ (q ++ (s ++ rest))) (t ∷ more.0 ++ ts) =
            cut_white front w (q ++ (s ++ rest)) (t ∷ more.0 ++ ts) (between_white b x) one in
            subst (λ m. Cut front m (t ∷ more.0 ++ ts)) (simp append_assoc) two,
      )

  are_append : (us vs : List Token) (xs ys : List Lexeme) → AreOf (encode_utf8_all full) us xs → AreOf (encode_utf8_all full) vs ys → AreOf
      (encode_utf8_all full) (us ++ vs) (xs ++ ys)
  are_append [] vs [] ys a b = b
  are_append [] vs (x ∷ xs) ys a b = absurd a
  are_append (u ∷ us) vs [] ys a b = absurd a
  are_append (u ∷ us) vs (x ∷ xs) ys a b = (a.0, are_append us vs xs ys a.1 b)

  indent_white : (d : ℕ) → AllWhite (indent d)
  indent_white zero = tt
  indent_white (suc d) = (refl, (refl, indent_white d))

  cut_layout : (front : List ℕ) (ls : List Line) → AllByRecursion IsProper (tokens_on ls) → full ≡ front ++ layout ls → (us : List Token) × AreOf
      (encode_utf8_all full) us (tokens_on ls) × Cut front (layout ls) us
  cut_layout front [] p e = ([], tt, done front)
  cut_layout front (l ∷ ls) p e =
      let i = indent l.depth in
      let s = spaced before.Joined l.tokens in
      let n = codes "\n" in
      let here = proper_parts l.tokens (tokens_on ls) p in
      let around : full ≡ (front ++ i) ++ (s ++ (n ++ layout ls)) = e ∙ simp append_assoc in
      let onward : full ≡ (((front ++ i) ++ s) ++ n) ++ layout ls = around ∙ simp append_assoc in
      let one = cut_spaced (front ++ i) (n ++ layout ls) before.Joined l.tokens here.0 refl around in
      let more = cut_layout (((front ++ i) ++ s) ++ n) ls here.1 onward in
      let last : Cut ((front ++ i) ++ s) (n ++ layout ls) more.0 = cut_white ((front ++ i) ++ s) n (layout ls) more.0 (refl, tt) more.2 in
      let all : Cut front (i ++ (s ++ (n ++ layout ls))) (one.0 ++ more.0) =
      cut_white front i (s ++ (n ++ layout ls)) (one.0 ++ more.0) (indent_white l.depth) (one.2 more.0 last) in (
        one.0 ++ more.0,
        are_append one.0 more.0 l.tokens (tokens_on ls) one.1 more.1,
        subst (λ m. Cut front m (one.0 ++ more.0)) (simp append_assoc) all,
      )

-- what is laid out are characters
space_scalars : (b : Bool) → all_scalars (space_unless b) ≡ true
space_scalars true = refl
space_scalars false = refl

between_scalars : (b : Before) (x : Lexeme) → all_scalars (between b x) ≡ true
between_scalars before.Joined x = refl
between_scalars before.Word x = space_scalars (is_close x || is_open x)
between_scalars before.Other x = space_scalars (is_close x)

spaced_scalars : (b : Before) (xs : List Lexeme) → AllByRecursion IsProper xs → all_scalars (spaced b xs) ≡ true
spaced_scalars b [] p = refl
spaced_scalars b (x ∷ xs) p = whole (between b x) _ (between_scalars b x) (whole (text_of x) _ p.0.scalars (spaced_scalars (before_next x) xs p.1))

indent_scalars : (d : ℕ) → all_scalars (indent d) ≡ true
indent_scalars zero = refl
indent_scalars (suc d) = indent_scalars d

layout_scalars : (ls : List Line) → AllByRecursion IsProper (tokens_on ls) → all_scalars (layout ls) ≡ true
layout_scalars [] p = refl
layout_scalars (l ∷ ls) p =
    let here = proper_parts l.tokens (tokens_on ls) p in
    whole (line_text l) (layout ls) (whole (indent l.depth) _ (indent_scalars l.depth)
    (whole (spaced before.Joined l.tokens) (codes "\n") (spaced_scalars before.Joined l.tokens here.0) refl)) (layout_scalars ls here.1)

pub lines_are_cut : LinesAreCut
lines_are_cut ls p =
    let scalars = layout_scalars ls p in
    let one = cut_layout (layout ls) scalars [] ls p refl in
    let same : chars (encode_utf8_all (layout ls)) ≡ layout ls = chars-encodes (layout ls) scalars in (
      record { list = one.0; end = place_after (chars (encode_utf8_all (layout ls))) },
      record { utf8 = (layout ls, (scalars, refl)); cut = subst (λ m. Cut [] m one.0) (sym same) one.2; end = refl },
      one.1,
    )
