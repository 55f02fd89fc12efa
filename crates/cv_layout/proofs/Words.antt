-- The tokens of a text are written with their characters.
use Rattle.std.proofs.Common.{◌≡◌, ℕ, Bool, true, false, ◌&&◌, List, [], ◌∷◌, All, IsUtf8, arith, refl}
use Rattle.std.specs.Prelude.{if◌then◌else◌, slice_range, nat_le, ◌≤◌}
use Rattle.std.specs.Str.{IsCharBoundary}
use Rattle.std.proofs.lemmas.Bool.Decides.{nat_tests}
use Rattle.std.proofs.lemmas.List.Elements.{All-head, All-tail}
use Rattle.std.proofs.lemmas.Str.{IsUtf8-between, IsUtf8-nil, scalars-chars}
use Rattle.easl_model.specs.{AreTokens, IsToken, bytes_of, may_cut, word_of}
use Rattle.easl_model.specs.declared.token.Token.{Token}
use Rattle.easl_model.specs.declared.token.Tokens.{Tokens}
use Rattle.easl_model.proofs.Written.{both, tokens_are_written}
use Rattle.cv_layout.proofs.Printed.{AreWritten}

cut_there : (text : List ℕ) (at : ℕ) → may_cut text at ≡ true → IsCharBoundary text at
cut_there text at h = (grind (arith, nat_tests), λ l m. grind (arith, nat_tests))

in_order : (a b : ℕ) → nat_le a b ≡ true → a ≤ b
in_order a b h = grind (arith, nat_tests)

bytes_utf8 : (text : List ℕ) (t : Token) → IsUtf8 text → IsUtf8 (bytes_of text t)
bytes_utf8 text t u = by (nat_le t.start t.end && may_cut text t.start && may_cut text t.end) refl
  where
    by : (b : Bool) → (nat_le t.start t.end && may_cut text t.start && may_cut text t.end) ≡ b → IsUtf8 (if b then slice_range text t.start t.end else [])
    by true e =
        let h = both (nat_le t.start t.end && may_cut text t.start) (may_cut text t.end) e in
        let k = both (nat_le t.start t.end) (may_cut text t.start) h.0 in
        IsUtf8-between text t.start t.end u (in_order t.start t.end k.0) (cut_there text t.start k.1) (cut_there text t.end h.1)
    by false e = IsUtf8-nil

written : (text : List ℕ) (ts : List Token) → IsUtf8 text → All (λ t. IsToken t.kind (word_of text t).name) ts → AreWritten text ts
written text [] u a = tt
written text (t ∷ ts) u a = (
  record { is_token = All-head (λ t. IsToken t.kind (word_of text t).name) t ts a; scalars = scalars-chars (bytes_of text t) (bytes_utf8 text t u) },
  written text ts u (All-tail (λ t. IsToken t.kind (word_of text t).name) t ts a),
)

-- each token of a text has the characters that it was cut from
pub are_written : (text : List ℕ) (x : Tokens) → AreTokens text x → AreWritten text x.list
are_written text x t = written text x.list t.utf8 (tokens_are_written text x t)
