-- What holds of two lists, place by place.
use Rattle.std.proofs.Common.{ℕ, ◌+◌, ◌<◌, ◌≡◌, zero, suc, List, [], ◌∷◌, ◌++◌, length, get_or, take, subst, sym, arith}
use Rattle.std.specs.List.{AllZip}
use Rattle.std.proofs.lemmas.List.{take_more}

-- it holds at each place
pub AllZip-at : {A B : Type 0} (R : A → B → Type 0) (xs : List A) (ys : List B) (i : ℕ) (d : A) (e : B) → AllZip R xs ys → i < length xs
    → R (get_or xs i d) (get_or ys i e)
AllZip-at R [] [] i d e h l = absurd (omega arith)
AllZip-at R [] (y ∷ ys) i d e h l = absurd h
AllZip-at R (x ∷ xs) [] i d e h l = absurd h
AllZip-at R (x ∷ xs) (y ∷ ys) zero d e h l = h.0
AllZip-at R (x ∷ xs) (y ∷ ys) (suc i) d e h l = AllZip-at R xs ys i d e h.1 (omega arith)

-- from each place
pub AllZip-each : {A B : Type 0} (R : A → B → Type 0) (xs : List A) (ys : List B) → length xs ≡ length ys
    → ((k : ℕ) (d : A) (e : B) → k < length xs → R (get_or xs k d) (get_or ys k e)) → AllZip R xs ys
AllZip-each R [] [] l h = tt
AllZip-each R [] (y ∷ ys) l h = absurd (omega arith)
AllZip-each R (x ∷ xs) [] l h = absurd (omega arith)
AllZip-each R (x ∷ xs) (y ∷ ys) l h =
    (h 0 x y (omega arith), AllZip-each R xs ys (omega arith) (λ k d e below. h (suc k) d e (omega arith)))

AllZip-behind : {A B : Type 0} (R : A → B → Type 0) (xs : List A) (ys : List B) (x : A) (y : B) → AllZip R xs ys → R x y
    → AllZip R (xs ++ x ∷ []) (ys ++ y ∷ [])
AllZip-behind R [] [] x y h r = (r, tt)
AllZip-behind R [] (b ∷ ys) x y h r = absurd h
AllZip-behind R (a ∷ xs) [] x y h r = absurd h
AllZip-behind R (a ∷ xs) (b ∷ ys) x y h r = (h.0, AllZip-behind R xs ys x y h.1 r)

-- one place more
pub AllZip-more : {A B : Type 0} (R : A → B → Type 0) (xs : List A) (ys : List B) (i : ℕ) (d : A) (y : B) → i < length xs → AllZip R (take i xs) ys
    → R (get_or xs i d) y → AllZip R (take (i + 1) xs) (ys ++ y ∷ [])
AllZip-more {A} R xs ys i d y l h r =
    let P : List A → Type 0 = λ zs. AllZip R zs (ys ++ y ∷ []) in
    subst P (sym (take_more xs i d l)) (AllZip-behind R (take i xs) ys (get_or xs i d) y h r)

pub AllZip-pushed : {A B : Type 0} (R : A → B → Type 0) (xs : List A) (ys zs : List B) (i : ℕ) (d : A) (y : B) → zs ≡ ys ++ y ∷ [] → i < length xs
    → AllZip R (take i xs) ys → R (get_or xs i d) y → AllZip R (take (i + 1) xs) zs
AllZip-pushed {A} {B} R xs ys zs i d y e l h r =
    let P : List B → Type 0 = λ v. AllZip R (take (i + 1) xs) v in
    subst P (sym e) (AllZip-more R xs ys i d y l h r)
