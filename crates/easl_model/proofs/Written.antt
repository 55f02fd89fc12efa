-- A token of a text has the characters that it was cut from.
use Rattle.std.proofs.Common.{◌≡◌, ℕ, ◌+◌, ◌-◌, Bool, true, false, ◌&&◌, List, [], ◌∷◌, ◌++◌, length, take, drop, chars, encode_utf8_all, arith, append_assoc, length-append, refl, sym, ap, ◌∙◌, subst}
use Rattle.std.specs.Prelude.{if◌then◌else◌, slice_range, nat_le}
use Rattle.std.specs.List.{AllByRecursion}
use Rattle.std.specs.Str.{all_scalars, IsCharBoundary}
use Rattle.std.proofs.lemmas.Bool.Decides.{nat_tests}
use Rattle.std.proofs.lemmas.List.Elements.{All-from_recursion}
use Rattle.std.proofs.lemmas.Str.{encodes-append, chars-encodes, IsCharBoundary-at_seam}
use Rattle.easl_model.specs.{Cut, IsToken, TokensAreWritten, byte_len, bytes_of, done, gap, may_cut, token, token_at, word_of}
use Rattle.easl_model.specs.declared.token.Kind.{Kind}
use Rattle.easl_model.specs.declared.token.Token.{Token}

may_cut_at : (text : List ℕ) (at : ℕ) → IsCharBoundary text at → may_cut text at ≡ true
may_cut_at text at h = grind (arith, nat_tests, h.0, h.1)

pub both : (a b : Bool) → (a && b) ≡ true → (a ≡ true) × (b ≡ true)
both true b e = (refl, e)
both false b e = cc

pub halves : (cs ds : List ℕ) → all_scalars (cs ++ ds) ≡ true → (all_scalars cs ≡ true) × (all_scalars ds ≡ true)
halves [] ds e = (refl, e)
halves (c ∷ cs) ds e =
    let h = both _ (all_scalars (cs ++ ds)) e in
    let k = halves cs ds h.1 in
    (ap (λ b. b && all_scalars cs) h.0 ∙ k.0, k.1)

all_three : (a b c : Bool) (xs : List ℕ) → a ≡ true → b ≡ true → c ≡ true → (if a && b && c then xs else []) ≡ xs
all_three true true true xs e f g = refl
all_three false b c xs e f g = cc
all_three true false c xs e f g = cc
all_three true true false xs e f g = cc

drop_front : (xs ys : List ℕ) → drop (length xs) (xs ++ ys) ≡ ys
drop_front [] ys = refl
drop_front (x ∷ xs) ys = drop_front xs ys

take_front : (xs ys : List ℕ) → take (length xs) (xs ++ ys) ≡ xs
take_front [] ys = refl
take_front (x ∷ xs) ys = ap (λ zs. x ∷ zs) (take_front xs ys)

-- the bytes of these characters, which stand behind others and before others
pub token_bytes : (k : Kind) (before q s : List ℕ) → all_scalars (before ++ (q ++ s)) ≡ true
    → bytes_of (encode_utf8_all (before ++ (q ++ s))) (token_at before k q) ≡ encode_utf8_all q
token_bytes k before q s h =
    let b = encode_utf8_all before in
    let c = encode_utf8_all q in
    let r = encode_utf8_all s in
    let text = encode_utf8_all (before ++ (q ++ s)) in
    let outer = halves before (q ++ s) h in
    let inner = halves q s outer.1 in
    let seam : text ≡ b ++ encode_utf8_all (q ++ s) = encodes-append before (q ++ s) in
    let three : text ≡ b ++ (c ++ r) = seam ∙ ap (λ m. b ++ m) (encodes-append q s) in
    let front : encode_utf8_all (before ++ q) ≡ b ++ c = encodes-append before q in
    let two : text ≡ encode_utf8_all (before ++ q) ++ r = three ∙ sym (append_assoc b c r) ∙ ap (λ m. m ++ r) (sym front) in
    let until : byte_len (before ++ q) ≡ length b + length c = ap length front ∙ length-append b c in
    let size : byte_len (before ++ q) - byte_len before ≡ length c = omega arith in
    let first : IsCharBoundary text (byte_len before) = IsCharBoundary-at_seam text b (encode_utf8_all (q ++ s)) seam (q ++ s, (outer.1, refl)) in
    let last : IsCharBoundary text (byte_len (before ++ q)) = IsCharBoundary-at_seam text (encode_utf8_all (before ++ q)) r two (s, (inner.1, refl)) in
    let order : nat_le (byte_len before) (byte_len (before ++ q)) ≡ true = grind (arith, nat_tests, until) in
    all_three (nat_le (byte_len before) (byte_len (before ++ q))) (may_cut text (byte_len before)) (may_cut text (byte_len (before ++ q))) (slice_range text (byte_len before) (byte_len (before ++ q))) order (may_cut_at text (byte_len before) first) (may_cut_at text (byte_len (before ++ q)) last)
    ∙ ap (λ n. take n (drop (length b) text)) size ∙ ap (λ m. take (length c) (drop (length b) m)) three ∙ ap (take (length c)) (drop_front b (c ++ r)) ∙ take_front c r

abbrev Written : List ℕ → Token → Type 0
Written cs t = IsToken t.kind (word_of (encode_utf8_all cs) t).name

written : (before cs : List ℕ) (ts : List Token) → Cut before cs ts → all_scalars (before ++ cs) ≡ true → AllByRecursion (Written (before ++ cs)) ts
written _ _ _ (done before) h = tt
written _ _ _ (gap before q s ts g c) h = subst (λ x. AllByRecursion (Written x) ts) (append_assoc before q s) (written (before ++ q) s ts c (ap all_scalars (append_assoc before q s) ∙ h))
written _ _ _ (token k before q s ts l c) h =
    let scalars = (halves q s (halves before (q ++ s) h).1).0 in
    let e : (word_of (encode_utf8_all (before ++ (q ++ s))) (token_at before k q)).name ≡ q = ap chars (token_bytes k before q s h) ∙ chars-encodes q scalars in (
      subst (IsToken k) (sym e) l.is_token,
      subst (λ x. AllByRecursion (Written x) ts) (append_assoc before q s) (written (before ++ q) s ts c (ap all_scalars (append_assoc before q s) ∙ h)),
    )

pub tokens_are_written : TokensAreWritten
tokens_are_written text x t =
    let cs = t.utf8.0 in
    let decoded : chars text ≡ cs = ap chars (sym t.utf8.1.1) ∙ chars-encodes cs t.utf8.1.0 in
    let cut : Cut [] cs x.list = subst (λ m. Cut [] m x.list) decoded t.cut in
    All-from_recursion (λ k. IsToken k.kind (word_of text k).name) x.list
    (subst (λ m. AllByRecursion (λ k. IsToken k.kind (word_of m k).name) x.list) t.utf8.1.1 (written [] cs x.list cut t.utf8.1.0))
