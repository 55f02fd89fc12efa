-- The bytes of a token are the encoding of its characters.
use Rattle.std.proofs.Common.{◌≡◌, ℕ, true, ◌&&◌, List, [], ◌∷◌, ◌++◌, chars, encode_utf8_all, ap, ◌∙◌}
use Rattle.std.specs.Str.{all_scalars}
use Rattle.std.proofs.lemmas.Str.{chars-encodes}
use Rattle.easl_model.specs.{token_at, word_of}
use Rattle.easl_model.specs.declared.token.Kind.{Kind}
use Rattle.easl_model.proofs.Written.{both, halves, token_bytes}

pub whole : (cs ds : List ℕ) → all_scalars cs ≡ true → all_scalars ds ≡ true → all_scalars (cs ++ ds) ≡ true
whole [] ds e f = f
whole (c ∷ cs) ds e f =
    let h = both _ (all_scalars cs) e in
    ap (λ b. b && all_scalars (cs ++ ds)) h.0 ∙ whole cs ds h.1 f

pub token_word : (k : Kind) (before q s : List ℕ) → all_scalars (before ++ (q ++ s)) ≡ true →
    (word_of (encode_utf8_all (before ++ (q ++ s))) (token_at before k q)).name ≡ q
token_word k before q s h = ap chars (token_bytes k before q s h) ∙ chars-encodes q (halves q s (halves before (q ++ s) h).1).0
