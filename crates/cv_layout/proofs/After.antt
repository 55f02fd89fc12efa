-- What is put on a page is laid out.
use Rattle.std.proofs.Common.{◌≡◌, ℕ, zero, suc, Bool, true, false, ◌||◌, List, [], ◌∷◌, ◌++◌, codes, encode_utf8_all, append_assoc, append-nil, refl, sym, ap, ◌∙◌}
use lib.Utf8.{encode}
use Rattle.std.proofs.lemmas.Str.{encodes-append}
use Rattle.cv_layout.specs.declared.page.Before.{Before}
use Rattle.cv_layout.specs.declared.page.Before.TheVariants as before
use Rattle.cv_layout.specs.declared.page.Page.{Page}
use Rattle.cv_layout.specs.{Lexeme, Line, after, after_lines, before_next, between, ended, indent, is_close, is_open, layout, line_text, put, space_unless}
use Rattle.cv_layout.specs.{spaced, started, text_of}

pub after_append : (p : Page) (xs ys : List Lexeme) → after p (xs ++ ys) ≡ after (after p xs) ys
after_append p [] ys = refl
after_append p (x ∷ xs) ys = after_append (put p x) xs ys

pub lines_append : (p : Page) (xs ys : List Line) → after_lines p (xs ++ ys) ≡ after_lines (after_lines p xs) ys
lines_append p [] ys = refl
lines_append p (x ∷ xs) ys = lines_append (ended (after (started p x.depth) x.tokens)) xs ys

space_plain : (b : Bool) → encode_utf8_all (space_unless b) ≡ space_unless b
unfolding encode
space_plain true = refl
space_plain false = refl

between_plain : (b : Before) (x : Lexeme) → encode_utf8_all (between b x) ≡ between b x
between_plain before.Joined x = refl
between_plain before.Word x = space_plain (is_close x || is_open x)
between_plain before.Other x = space_plain (is_close x)

after_spaced : (p : Page) (xs : List Lexeme) → (after p xs).text ≡ p.text ++ encode_utf8_all (spaced p.before xs)
after_spaced p [] = sym (append-nil p.text)
after_spaced p (x ∷ xs) =
    let b = between p.before x in
    let q = text_of x in
    let s = spaced (before_next x) xs in
    let split : encode_utf8_all (b ++ (q ++ s)) ≡ b ++ (encode_utf8_all q ++ encode_utf8_all s) =
    encodes-append b (q ++ s) ∙ ap (λ m. m ++ encode_utf8_all (q ++ s)) (between_plain p.before x) ∙ ap (λ m. b ++ m) (encodes-append q s) in
    after_spaced (put p x) xs ∙ append_assoc p.text (b ++ encode_utf8_all q) (encode_utf8_all s) ∙ ap (λ m. p.text ++ m)
    (append_assoc b (encode_utf8_all q) (encode_utf8_all s)) ∙ ap (λ m. p.text ++ m) (sym split)

indent_plain : (d : ℕ) → encode_utf8_all (indent d) ≡ indent d
unfolding encode
indent_plain zero = refl
indent_plain (suc d) = encodes-append (codes "  ") (indent d) ∙ ap (λ m. codes "  " ++ m) (indent_plain d)

-- a page at the beginning of a line
abbrev pub page_of : List ℕ → Page
page_of t = record { text = t; before = before.Joined }

one_line : (t : List ℕ) (l : Line) → ended (after (started (page_of t) l.depth) l.tokens) ≡ page_of (t ++ encode_utf8_all (line_text l))
unfolding encode
one_line t l =
    let i = indent l.depth in
    let s = spaced before.Joined l.tokens in
    let n = codes "\n" in
    let e = encode_utf8_all s in
    let split : encode_utf8_all (i ++ (s ++ n)) ≡ i ++ (e ++ n) =
    encodes-append i (s ++ n) ∙ ap (λ m. m ++ encode_utf8_all (s ++ n)) (indent_plain l.depth) ∙ ap (λ m. i ++ m) (encodes-append s n) in
    ap (λ m. page_of (m ++ n)) (after_spaced (started (page_of t) l.depth) l.tokens) ∙ ap page_of (append_assoc (t ++ i) e n ∙ append_assoc t i (e ++ n))
    ∙ ap (λ m. page_of (t ++ m)) (sym split)

-- what is put on a page are the lines as they are laid out
pub laid_out : (t : List ℕ) (ls : List Line) → after_lines (page_of t) ls ≡ page_of (t ++ encode_utf8_all (layout ls))
laid_out t [] = ap page_of (sym (append-nil t))
laid_out t (l ∷ ls) =
    ap (λ p. after_lines p ls) (one_line t l) ∙ laid_out (t ++ encode_utf8_all (line_text l)) ls
    ∙ ap page_of (append_assoc t (encode_utf8_all (line_text l)) (encode_utf8_all (layout ls))) ∙ ap (λ m. page_of (t ++ m))
    (sym (encodes-append (line_text l) (layout ls)))
