-- What is found at the front of a text that begins with a word.
use Rattle.std.proofs.Common.{◌≡◌, ◌≢◌, ℕ, ◌+◌, Some, List, [], ◌∷◌, take, drop, encode_utf8_all, refl, sym, ap, ◌∙◌, subst, one-add}
use Rattle.std.specs.List.{prefix_len}
use Rattle.std.proofs.lemmas.List.Sums.{prefix_len-le-length}
use Rattle.std.proofs.lemmas.Str.{encodes_same}
use Rattle.unicode_ident.specs.Ident.{is_xid_continue}
use Rattle.easl_model.specs.declared.token.Key.{Key}
use Rattle.easl_model.specs.declared.token.Key.TheVariants as key
use Rattle.easl_model.specs.declared.token.Kind.{Kind}
use Rattle.easl_model.specs.declared.token.Kind.TheVariants as kind
use Rattle.easl_model.specs.{IsToken, IsWord, begins_name, byte_len, key_text}
use Rattle.easl_model.proofs.Words.{Words, group_of}
use Rattle.cv_lex.specs.Reading.{BeginsWith, IsFront}
use Rattle.cv_lex.proofs.Bytes.{front_bytes}
use Rattle.cv_lex.proofs.Fronts.{behind_first, behind_is, front_of}
use Rattle.cv_lex.proofs.Longest.{word_longest}
use Rattle.cv_lex.proofs.Runs.{passes, stops}

-- the bytes of a keyword are its characters
key_bytes : (k : Key) → encode_utf8_all (key_text k) ≡ key_text k
unfolding lib.Utf8.encode
key_bytes key.Class = refl
key_bytes key.Requires = refl
key_bytes key.New = refl
key_bytes key.This = refl
key_bytes key.Return = refl
key_bytes key.Void = refl
key_bytes key.Object = refl
key_bytes key.Int = refl
key_bytes key.Boolean = refl
key_bytes key.String = refl
key_bytes key.True = refl
key_bytes key.False = refl
key_bytes key.Null = refl
key_bytes key.Static = refl
key_bytes key.If = refl
key_bytes key.Else = refl
key_bytes key.While = refl
key_bytes key.Break = refl
key_bytes key.Continue = refl

take_first : (c : ℕ) (cs : List ℕ) (n : ℕ) → take (1 + n) (c ∷ cs) ≡ c ∷ take n cs
take_first c cs n = ap (λ m. take m (c ∷ cs)) (one-add n)

word_front : (k : Kind) (text : List ℕ) (n : ℕ) → BeginsWith begins_name text → n ≡ prefix_len is_xid_continue (behind_first text)
    → group_of k ≡ Words → IsToken k (take (1 + n) text) → IsFront text (record { kind = Some k; length = 1 + n })
word_front k [] n b e g t = absurd b
word_front k (c ∷ cs) n b e g t =
    let m : ℕ = prefix_len is_xid_continue cs in
    let same : n ≡ m = e ∙ ap (prefix_len is_xid_continue) (behind_is c cs) in
    let token : IsToken k (c ∷ take m cs) = subst (IsToken k) (ap (λ x. take (1 + x) (c ∷ cs)) same ∙ take_first c cs m) t in
    subst (λ x. IsFront (c ∷ cs) (record { kind = Some k; length = 1 + x })) (sym same)
    (front_of (Some k) c cs m (prefix_len-le-length is_xid_continue cs) (word_longest k c (take m cs) (drop m cs) g token (stops is_xid_continue cs)))

front_is_word : (text : List ℕ) (n : ℕ) → BeginsWith begins_name text → n ≡ prefix_len is_xid_continue (behind_first text) → IsWord (take (1 + n) text)
front_is_word [] n b e = absurd b
front_is_word (c ∷ cs) n b e =
    let m : ℕ = prefix_len is_xid_continue cs in
    let same : n ≡ m = e ∙ ap (prefix_len is_xid_continue) (behind_is c cs) in
    let word : IsWord (c ∷ take m cs) = (b, passes is_xid_continue cs) in
    subst IsWord (sym (ap (λ x. take (1 + x) (c ∷ cs)) same ∙ take_first c cs m)) word

pub key_front : (text bytes : List ℕ) (n size : ℕ) (k : Key) → bytes ≡ encode_utf8_all text → BeginsWith begins_name text
    → n ≡ prefix_len is_xid_continue (behind_first text) → size ≡ byte_len (take (1 + n) text) → key_text k ≡ take size bytes
    → IsFront text (record { kind = Some (kind.Key k); length = 1 + n })
key_front text bytes n size k u b e f g =
    word_front (kind.Key k) text n b e refl (encodes_same (take (1 + n) text) (key_text k) (sym (front_bytes text bytes (1 + n) size u f) ∙ sym g ∙ sym (key_bytes k)))

pub name_front : (text bytes : List ℕ) (n size : ℕ) → bytes ≡ encode_utf8_all text → BeginsWith begins_name text
    → n ≡ prefix_len is_xid_continue (behind_first text) → size ≡ byte_len (take (1 + n) text) → ((k : Key) → key_text k ≢ take size bytes)
    → IsFront text (record { kind = Some kind.Name; length = 1 + n })
name_front text bytes n size u b e f g =
    word_front kind.Name text n b e refl (front_is_word text n b e, λ k h. g k (sym (key_bytes k) ∙ ap encode_utf8_all (sym h) ∙ sym (front_bytes text bytes (1 + n) size u f)))
