-- What a cut goes on with behind a known front, and that a text has at most one.
use Rattle.std.proofs.Common.{◌≡◌, ◌≢◌, ℕ, ◌+◌, ◌<◌, ◌≤◌, Some, None, List, [], ◌∷◌, ◌++◌, length, All, chars, encode_utf8_all, IsUtf8, arith, append_assoc, length-append, refl, sym, ap, ◌∙◌, subst}
use Rattle.std.proofs.lemmas.List.{append_cancel_left, take_all}
use Rattle.std.specs.List.{AllByRecursion}
use Rattle.std.proofs.lemmas.List.Elements.{All-from_recursion}
use Rattle.std.proofs.lemmas.Str.{encodes-append, length-le-encodes, chars-encodes}
use Rattle.easl_model.specs.declared.place.Place.{Place}
use Rattle.easl_model.specs.declared.token.Kind.{Kind}
use Rattle.easl_model.specs.declared.token.Token.{Token}
use Rattle.easl_model.specs.declared.token.Tokens.{Tokens}
use Rattle.easl_model.specs.{AreTokens, Cut, CutTo, IsBadTokenAt, IsGap, IsLongest, IsNotUtf8At, IsPart, IsToken, NoPiece, OneListOfTokens}
use Rattle.easl_model.specs.{byte_len, done, gap, token, token_at}
use Rattle.easl_model.proofs.Pieces.{one_longest, one_token, one_gap, gap_some, apart}
use Rattle.easl_model.proofs.Words.{token_some}

same_rest : (p r q s : List ℕ) → p ++ r ≡ q ++ s → q ≡ p → s ≡ r
same_rest p r q s e f = append_cancel_left p s r (ap (λ x. x ++ s) (sym f) ∙ sym e)

moved : (before p r q s : List ℕ) (ts : List Token) → q ≡ p → s ≡ r → Cut (before ++ q) s ts → Cut (before ++ p) r ts
moved before p r q s ts e f c = subst (λ x. Cut (before ++ p) x ts) f (subst (λ x. Cut (before ++ x) s ts) e c)

pub behind_gap : (before p r cs : List ℕ) (ts : List Token) → IsGap p r → Cut before cs ts → cs ≡ p ++ r → Cut (before ++ p) r ts
behind_gap before [] r cs ts g c e = absurd (gap_some r g)
behind_gap _ (a ∷ p) r _ _ g (done before) e = cc
behind_gap _ (a ∷ p) r _ _ g (gap before q s ts h c) e =
    let same = one_gap q s (a ∷ p) r h g e in
    moved before (a ∷ p) r q s ts same (same_rest (a ∷ p) r q s (sym e) same) c
behind_gap _ (a ∷ p) r _ _ g (token k before q s ts l c) e = absurd (apart k q s (a ∷ p) r l.is_token g e)

pub behind_token : (k : Kind) (before p r cs : List ℕ) (ts : List Token) → IsLongest k p r → Cut before cs ts → cs ≡ p ++ r
    → (us : List Token) × (ts ≡ token_at before k p ∷ us) × Cut (before ++ p) r us
behind_token k before [] r cs ts l c e = absurd (token_some k l.is_token)
behind_token k _ (a ∷ p) r _ _ l (done before) e = cc
behind_token k _ (a ∷ p) r _ _ l (gap before q s ts h c) e = absurd (apart k (a ∷ p) r q s l.is_token h (sym e))
behind_token k _ (a ∷ p) r _ _ l (token j before q s ts m c) e =
    let same = one_longest j k q s (a ∷ p) r m l e in
    let kind = one_token j k (a ∷ p) (subst (IsToken j) same m.is_token) l.is_token in (
      ts,
      ap (λ x. token_at before j x ∷ ts) same ∙ ap (λ x. token_at before x (a ∷ p) ∷ ts) kind,
      moved before (a ∷ p) r q s ts same (same_rest (a ∷ p) r q s (sym e) same) c,
    )

pub at_end : (before cs : List ℕ) (ts : List Token) → Cut before cs ts → cs ≡ [] → ts ≡ []
at_end _ _ _ (done before) e = refl
at_end _ _ _ (gap before [] s ts h c) e = absurd (gap_some s h)
at_end _ _ _ (gap before (a ∷ q) s ts h c) e = cc
at_end _ _ _ (token k before [] s ts l c) e = absurd (token_some k l.is_token)
at_end _ _ _ (token k before (a ∷ q) s ts l c) e = cc

pub one_cut : (before cs : List ℕ) (ts us : List Token) → Cut before cs ts → Cut before cs us → ts ≡ us
one_cut _ _ _ us (done before) d = sym (at_end before [] us d refl)
one_cut _ _ _ us (gap before q s ts h c) d = one_cut (before ++ q) s ts us c (behind_gap before q s (q ++ s) us h d refl)
one_cut _ _ _ us (token k before q s ts l c) d =
    let w = behind_token k before q s (q ++ s) us l d refl in
    ap (λ vs. token_at before k q ∷ vs) (one_cut (before ++ q) s ts w.0 c w.2) ∙ sym w.1

pub one_list : OneListOfTokens
one_list text x y a b =
    let list : x.list ≡ y.list = one_cut [] (chars text) x.list y.list a.cut b.cut in
    let end : x.end ≡ y.end = a.end ∙ sym b.end in
    let with_list : List Token → Tokens = λ l. record { list = l; end = x.end } in
    let with_end : Place → Tokens = λ e. record { list = y.list; end = e } in
    ap with_list list ∙ ap with_end end

pub byte_len-append : (cs ds : List ℕ) → byte_len (cs ++ ds) ≡ byte_len cs + byte_len ds
byte_len-append cs ds = ap length (encodes-append cs ds) ∙ length-append (encode_utf8_all cs) (encode_utf8_all ds)

token_part : (k : Kind) (before cs rest : List ℕ) → IsToken k cs
    → (byte_len before < byte_len (before ++ cs)) × (byte_len (before ++ cs) ≤ byte_len (before ++ (cs ++ rest)))
token_part k before [] rest t = absurd (token_some k t)
token_part k before (c ∷ cs) rest t = (
  omega (arith, byte_len-append before (c ∷ cs), length-le-encodes (c ∷ cs)),
  omega (arith, byte_len-append before (c ∷ cs), byte_len-append before (c ∷ cs ++ rest), byte_len-append (c ∷ cs) rest),
)

token_parts : (before cs : List ℕ) (ts : List Token) → Cut before cs ts → AllByRecursion (λ t. (t.start < t.end) × (t.end ≤ byte_len (before ++ cs))) ts
token_parts _ _ _ (done before) = tt
token_parts _ _ _ (gap before q s ts h c) = subst (λ x. AllByRecursion (λ t. (t.start < t.end) × (t.end ≤ byte_len x)) ts) (append_assoc before q s) (token_parts (before ++ q) s ts c)
token_parts _ _ _ (token k before q s ts l c) = (
  token_part k before q s l.is_token,
  subst (λ x. AllByRecursion (λ t. (t.start < t.end) × (t.end ≤ byte_len x)) ts) (append_assoc before q s) (token_parts (before ++ q) s ts c),
)

chars_size : (text : List ℕ) → IsUtf8 text → byte_len (chars text) ≡ length text
chars_size text u =
    let decoded : chars text ≡ u.0 = ap chars (sym u.1.1) ∙ chars-encodes u.0 u.1.0 in
    ap byte_len decoded ∙ ap length u.1.1

pub parts : (text : List ℕ) (x : Tokens) → AreTokens text x → All (IsPart text) x.list
parts text x t =
    All-from_recursion (IsPart text) x.list
    (subst (λ n. AllByRecursion (λ t. (t.start < t.end) × (t.end ≤ n)) x.list) (chars_size text t.utf8) (token_parts [] (chars text) x.list t.cut))

no_cut : (before cs : List ℕ) (ts : List Token) → NoPiece cs → cs ≢ [] → Cut before cs ts → ⊥
no_cut _ _ _ none some (done b) = some refl
no_cut _ _ _ none some (gap b q s ts h c) = none None q s refl h
no_cut _ _ _ none some (token k b q s ts l c) = none (Some k) q s refl l

stuck : (left before cs : List ℕ) (ts us : List Token) → NoPiece left → left ≢ [] → CutTo left before cs ts → Cut before cs us → ⊥
stuck left _ _ _ us none some (done before) d = no_cut before left us none some d
stuck left _ _ _ us none some (gap before q s ts h c) d = stuck left (before ++ q) s ts us none some c (behind_gap before q s (q ++ s) us h d refl)
stuck left _ _ _ us none some (token k before q s ts l c) d =
    let w = behind_token k before q s (q ++ s) us l d refl in
    stuck left (before ++ q) s ts w.0 none some c w.2

-- a text in which no token begins at some place has no tokens
pub bad_has_none : (text : List ℕ) (place : Place) (x : Tokens) → IsBadTokenAt text place → AreTokens text x → ⊥
bad_has_none text place x b t = stuck b.1.left [] (chars text) b.1.tokens x.list b.1.none b.1.some b.1.cut t.cut

-- bytes that are no text have no tokens
pub not_utf8_has_none : (text : List ℕ) (place : Place) (x : Tokens) → IsNotUtf8At text place → AreTokens text x → ⊥
not_utf8_has_none text place x n t = n.longest (length text) n.short (omega arith) (subst IsUtf8 (sym (take_all (length text) text (omega arith))) t.utf8)
