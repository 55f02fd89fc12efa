-- What stands at an index of a list.
use Rattle.std.proofs.Common.{◌≡◌, ℕ, zero, suc, ◌+◌, Some, List, [], ◌∷◌, ◌++◌, length, take, drop, slice_get, sym, ap, ◌∙◌, arith, zero-add, length-drop}
use Rattle.std.proofs.lemmas.List.{take_all}
use Rattle.std.proofs.lemmas.Option.{slice_get_within}

pub here : (cs : List ℕ) (i c : ℕ) → slice_get cs i ≡ Some c → (rest : List ℕ) × (drop i cs ≡ c ∷ rest)
here [] i c e = absurd (omega (arith, slice_get_within [] i c e))
here (d ∷ cs) zero c e = (cs, let f : d ≡ c = cc in ap (λ x. x ∷ cs) f)
here (d ∷ cs) (suc i) c e = here cs i c e

pub there : (cs : List ℕ) (i c : ℕ) (rest : List ℕ) → drop i cs ≡ c ∷ rest → slice_get cs i ≡ Some c
there [] i c rest e = let none : List ℕ = [] in absurd (omega (arith, length-drop i none, ap length e))
there (d ∷ cs) zero c rest e = let f : d ≡ c = cc in ap Some f
there (d ∷ cs) (suc i) c rest e = there cs i c rest e

pub take_add : (m n : ℕ) (xs : List ℕ) → take (m + n) xs ≡ take m xs ++ take n (drop m xs)
take_add zero n xs = ap (λ k. take k xs) (zero-add n)
take_add (suc m) n [] = take_all (suc m + n) [] (omega arith) ∙ sym (take_all n [] (omega arith))
take_add (suc m) n (x ∷ xs) =
    let sizes : suc m + n ≡ suc (m + n) = omega arith in
    ap (λ k. take k (x ∷ xs)) sizes ∙ ap (λ ys. x ∷ ys) (take_add m n xs)

pub get_past : (p ys : List ℕ) (i : ℕ) → slice_get (p ++ ys) (length p + i) ≡ slice_get ys i
get_past [] ys i = ap (slice_get ys) (zero-add i)
get_past (x ∷ p) ys i =
    let sizes : suc (length p) + i ≡ suc (length p + i) = omega arith in
    ap (slice_get (x ∷ p ++ ys)) sizes ∙ get_past p ys i
