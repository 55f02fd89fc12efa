-- The bytes of the front of a text and of what follows.
use Rattle.std.proofs.Common.{◌≡◌, ℕ, ◌+◌, ◌<◌, ◌≤◌, List, [], ◌∷◌, ◌++◌, length, get_or, take, drop, encode_utf8, encode_utf8_all, sym, ap, ◌∙◌, arith, append-nil, take-append-drop, length-append, length-take-le}
use Rattle.std.proofs.Math.Seq.{drop-append_seam}
use Rattle.std.proofs.lemmas.List.{take_at, take_more}
use Rattle.std.proofs.lemmas.Str.{encodes-append, length-le-encodes}
use Rattle.easl_model.specs.{byte_len}
use Rattle.easl_model.proofs.Cuts.{byte_len-append}

parted : (cs bytes : List ℕ) (n : ℕ) → bytes ≡ encode_utf8_all cs → bytes ≡ encode_utf8_all (take n cs) ++ encode_utf8_all (drop n cs)
parted cs bytes n e = e ∙ ap encode_utf8_all (sym (take-append-drop n cs)) ∙ encodes-append (take n cs) (drop n cs)

pub front_within : (cs bytes : List ℕ) (n : ℕ) → bytes ≡ encode_utf8_all cs → byte_len (take n cs) ≤ length bytes
front_within cs bytes n e =
    omega (arith, ap length (parted cs bytes n e), length-append (encode_utf8_all (take n cs)) (encode_utf8_all (drop n cs)))

pub sizes : (cs bytes : List ℕ) (n : ℕ) → bytes ≡ encode_utf8_all cs → byte_len (take n cs) + byte_len (drop n cs) ≡ length bytes
sizes cs bytes n e = sym (ap length (parted cs bytes n e) ∙ length-append (encode_utf8_all (take n cs)) (encode_utf8_all (drop n cs)))

pub front_bytes : (cs bytes : List ℕ) (n size : ℕ) → bytes ≡ encode_utf8_all cs → size ≡ byte_len (take n cs) → take size bytes ≡ encode_utf8_all (take n cs)
front_bytes cs bytes n size e f =
    ap (take size) (parted cs bytes n e) ∙ take_at (encode_utf8_all (take n cs)) (encode_utf8_all (drop n cs)) size (sym f)

pub rest_bytes : (cs bytes : List ℕ) (n size : ℕ) → bytes ≡ encode_utf8_all cs → size ≡ byte_len (take n cs) → drop size bytes ≡ encode_utf8_all (drop n cs)
rest_bytes cs bytes n size e f =
    ap (λ m. drop m bytes) f ∙ ap (drop (byte_len (take n cs))) (parted cs bytes n e) ∙ drop-append_seam (encode_utf8_all (take n cs)) (encode_utf8_all (drop n cs))

pub front_short : (cs : List ℕ) (n : ℕ) → byte_len (take n cs) ≤ byte_len cs
front_short cs n =
    omega (arith, ap byte_len (take-append-drop n cs), byte_len-append (take n cs) (drop n cs))

pub front_length : (cs : List ℕ) (n : ℕ) → length (take n cs) ≤ byte_len cs
front_length cs n = omega (arith, front_short cs n, length-le-encodes (take n cs))

-- as many characters have as many bytes at least
pub front_at : (cs : List ℕ) (n : ℕ) → n ≤ length cs → n ≤ byte_len (take n cs)
front_at cs n h = omega (arith, length-take-le n cs h, length-le-encodes (take n cs))

-- the bytes of one more character
pub one_more : (cs : List ℕ) (i c : ℕ) → i < length cs → c ≡ get_or cs i c → byte_len (take (i + 1) cs) ≡ byte_len (take i cs) + length (encode_utf8 c)
one_more cs i c h e =
    ap byte_len (take_more cs i c h) ∙ byte_len-append (take i cs) (get_or cs i c ∷ []) ∙ ap (λ x. byte_len (take i cs) + byte_len (x ∷ [])) (sym e) ∙ ap (λ x. byte_len (take i cs) + length x) (append-nil (encode_utf8 c))
