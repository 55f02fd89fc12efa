-- The places of objects in a heap.
use Rattle.std.proofs.Common.{◌≡◌, ℕ, zero, suc, ◌-◌, ◌<◌, ◌≤◌, List, [], ◌∷◌, length, arith, ap, refl}
use Rattle.std.specs.Prelude.{slice_get, slice_set, slice_index_or}
use Rattle.easl_heap.specs.{Object, object_at, with_field, write}

pub place_before : (heap : List Object) (n : ℕ) → 0 < n → object_at heap n ≡ slice_get heap (n - 1)
place_before heap zero some = absurd (omega arith)
place_before heap (suc n) some = ap (slice_get heap) (let e : n ≡ suc n - 1 = omega arith in e)

pub write_at_none : (heap : List Object) (n field value : ℕ) → n ≡ 0 → write heap n field value ≡ heap
write_at_none heap zero field value none = refl
write_at_none heap (suc n) field value none = absurd (omega arith)

write_past_next : (heap : List Object) (n field value : ℕ) → length heap ≤ n → write heap (suc n) field value ≡ heap
write_past_next [] n field value past = refl
write_past_next (o ∷ heap) zero field value past = absurd (omega arith)
write_past_next (o ∷ heap) (suc n) field value past =
    ap (λ rest. o ∷ rest) (write_past_next heap n field value (omega arith))

pub write_past : (heap : List Object) (n field value : ℕ) → 0 < n → length heap ≤ n - 1 → write heap n field value ≡ heap
write_past heap zero field value some past = absurd (omega arith)
write_past heap (suc n) field value some past = write_past_next heap n field value (omega arith)

write_next : (heap : List Object) (n field value : ℕ) (o : Object) → n < length heap
    → write heap (suc n) field value ≡ slice_set heap n (with_field field value (slice_index_or heap n o))
write_next [] n field value o within = absurd (omega arith)
write_next (x ∷ heap) zero field value o within = refl
write_next (x ∷ heap) (suc n) field value o within =
    ap (λ rest. x ∷ rest) (write_next heap n field value o (omega arith))

pub write_within : (heap : List Object) (n field value : ℕ) (o : Object) → 0 < n → n - 1 < length heap
    → write heap n field value ≡ slice_set heap (n - 1) (with_field field value (slice_index_or heap (n - 1) o))
write_within heap zero field value o some within = absurd (omega arith)
write_within heap (suc n) field value o some within =
    let e : suc n - 1 ≡ n = omega arith in rw e (write_next heap n field value o (omega arith))
