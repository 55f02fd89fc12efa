-- Rows of bits that are set one by one.
use Rattle.std.proofs.Common.{◌≡◌, ◌≢◌, ◌↔◌, ◌⊎◌, ℕ, zero, suc, ◌+◌, ◌*◌, ◌/◌, ◌%◌, ◌^◌, ◌<◌, ◌≤◌, Bool, true, false, List, length, bit_or, Some, ap, sym, ◌∙◌, inl, inr, ⊎_elim, arith}
use Rattle.std.specs.Prelude.{slice_get, slice_index, slice_set}
use Rattle.std.proofs.Math.ListN.{replicate}
use Rattle.std.specs.Int.{bit_at, w64}
use Rattle.std.proofs.lemmas.Bool.{cases_order}
use Rattle.std.proofs.lemmas.List.{get_or-set_same, get_or-set_other}
use Rattle.std.proofs.lemmas.Nat.Bits.{bit_at-zero, bit_at_set_same, bit_at_set_other}
use Rattle.std.proofs.lemmas.Option.{slice_get_within}
use Rattle.cube_search.specs.Cubes.{IsSet}
use Rattle.cube_search.specs.Truths.{IsTruth, IsRowOf}

-- the bits that are set are those of the first n places where it is true
pub record IsRowUpto (truths : List Bool) (n : ℕ) (row : List ℕ) : Type 0 where
  pub words : length row ≡ length truths / 64 + 1
  pub bits : (x : ℕ × ℕ) → IsSet row x.0 x.1 ↔ (IsTruth truths x × (64 * x.0 + x.1 < n))

pub none_set : (n word bit : ℕ) → IsSet (replicate n 0) word bit → ⊥
none_set zero word bit set = absurd (omega (arith, set, bit_at-zero bit))
none_set (suc n) zero bit set = absurd (omega (arith, set, bit_at-zero bit))
none_set (suc n) (suc word) bit set = none_set n word bit set

-- a row in which none is set is one of no places
pub row_none : (truths : List Bool) (row : List ℕ) → length row ≡ length truths / 64 + 1 → ((word bit : ℕ) → IsSet row word bit → ⊥) → IsRowUpto truths 0 row
row_none truths row words none = record {
  words = words;
  bits = λ x. (λ set. absurd (none x.0 x.1 set), λ is. absurd (omega (arith, is.1)));
}

-- one place more, where it is not true
pub row_pass : (truths : List Bool) (n : ℕ) (row : List ℕ) → slice_get truths n ≡ Some false → IsRowUpto truths n row → IsRowUpto truths (n + 1) row
row_pass truths n row at is = record {
  words = is.words;
  bits = λ x. (
    (λ set. let b = (is.bits x).0 set in (b.0, omega (arith, b.1))),
    (λ b. (is.bits x).1 (
      b.0,
      ⊎_elim (λ (e : 64 * x.0 + x.1 ≡ n). absurd (let one : slice_get truths n ≡ Some true = ap (slice_get truths) (sym e) ∙ b.0.1 in cc))
          (⊎_elim (λ (l : 64 * x.0 + x.1 < n). l) (λ (l : n < 64 * x.0 + x.1). absurd (omega (arith, l, b.1)))) (cases_order (64 * x.0 + x.1) n),
    )),
  );
}

-- one place more, where it is true, and its bit is set
pub row_set : (truths : List Bool) (n : ℕ) (row more : List ℕ) → slice_get truths n ≡ Some true → IsRowUpto truths n row → length more ≡ length row
    → ((word bit : ℕ) → IsSet more word bit ↔ (((bit < 64) × (64 * word + bit ≡ n)) ⊎ IsSet row word bit)) → IsRowUpto truths (n + 1) more
row_set truths n row more at is words set = record {
  words = words ∙ is.words;
  bits = λ x. (
    (λ s.
        ⊎_elim
        (λ (e : (x.1 < 64) × (64 * x.0 + x.1 ≡ n)). ((e.0, ap (slice_get truths) e.1 ∙ at), omega (arith, e.1)))
        (λ (o : IsSet row x.0 x.1). let b = (is.bits x).0 o in (b.0, omega (arith, b.1)))
        ((set x.0 x.1).0 s)),
    (λ b.
        (set x.0 x.1).1
        (⊎_elim
        (λ (e : 64 * x.0 + x.1 ≡ n). inl (b.0.0, e))
        (⊎_elim (λ (l : 64 * x.0 + x.1 < n). inr ((is.bits x).1 (b.0, l))) (λ (l : n < 64 * x.0 + x.1). absurd (omega (arith, l, b.1))))
        (cases_order (64 * x.0 + x.1) n))),
  );
}

pub row_whole : (truths : List Bool) (n : ℕ) (row : List ℕ) → length truths ≤ n → IsRowUpto truths n row → IsRowOf truths row
row_whole truths n row all is = record {
  words = is.words;
  bits = λ x. (
    (λ set. ((is.bits x).0 set).0),
    (λ b. (is.bits x).1 (b, omega (arith, all, slice_get_within truths (64 * x.0 + x.1) true b.1))),
  );
}

-- a bit that is set in a word of a row
pub bit_set : (row : List ℕ) (place : ℕ) → place / 64 < length row → (word bit : ℕ)
    → IsSet (slice_set row (place / 64) (bit_or (slice_index row (place / 64)) (1 * 2 ^ (place % 64) % 18446744073709551616))) word bit
    ↔ (((bit < 64) × (64 * word + bit ≡ place)) ⊎ IsSet row word bit)
bit_set row place within word bit =
    ⊎_elim here
    (λ (apart : (word < place / 64) ⊎ (place / 64 < word)).
    let same = get_or-set_other row (place / 64) word new 0 (λ e. ⊎_elim (λ (l : word < place / 64). omega (arith, l, e)) (λ (l : place / 64 < word). omega (arith, l, e)) apart) in (
      (λ set. inr (ap (λ n. bit_at n bit) (sym same) ∙ set)),
      (λ is. ap (λ n. bit_at n bit) same
          ∙ ⊎_elim {C = IsSet row word bit}
          (λ (e : (bit < 64) × (64 * word + bit ≡ place)). absurd (⊎_elim (λ (l : word < place / 64). omega (arith, l, e)) (λ (l : place / 64 < word). omega (arith, l, e)) apart))
          (λ (o : IsSet row word bit). o) is),
    ))
    (cases_order word (place / 64))
  where
    old : ℕ
    old = slice_index row (place / 64)

    new : ℕ
    new = bit_or (slice_index row (place / 64)) (1 * 2 ^ (place % 64) % 18446744073709551616)

    here : word ≡ place / 64
        → IsSet (slice_set row (place / 64) (bit_or (slice_index row (place / 64)) (1 * 2 ^ (place % 64) % 18446744073709551616))) word bit
        ↔ (((bit < 64) × (64 * word + bit ≡ place)) ⊎ IsSet row word bit)
    here e =
        let same : slice_index (slice_set row (place / 64) new) word ≡ new = ap (slice_index (slice_set row (place / 64) new)) e ∙ get_or-set_same row (place / 64) new 0 within in
        let was : slice_index row word ≡ old = ap (slice_index row) e in
        ⊎_elim
        (λ (s : bit ≡ place % 64). (
          (λ set. inl (omega (arith, s), omega (arith, s, e))),
          (λ is. ap (λ n. bit_at n bit) same ∙ ap (bit_at new) s ∙ bit_at_set_same w64 old (place % 64) (omega arith)),
        ))
        (λ (apart : (bit < place % 64) ⊎ (place % 64 < bit)).
        let differs : bit ≢ place % 64 = λ f. ⊎_elim (λ (l : bit < place % 64). omega (arith, l, f)) (λ (l : place % 64 < bit). omega (arith, l, f)) apart in
        let kept : bit_at new bit ≡ bit_at old bit = bit_at_set_other w64 old (place % 64) (omega arith) bit differs in (
          (λ set. inr (ap (λ n. bit_at n bit) was ∙ sym kept ∙ ap (λ n. bit_at n bit) (sym same) ∙ set)),
          (λ is. ap (λ n. bit_at n bit) same ∙ kept ∙ ap (λ n. bit_at n bit) (sym was)
              ∙ ⊎_elim {C = IsSet row word bit}
              (λ (f : (bit < 64) × (64 * word + bit ≡ place)). absurd (differs (omega (arith, f.0, f.1)))) (λ (o : IsSet row word bit). o) is),
        ))
        (cases_order bit (place % 64))
